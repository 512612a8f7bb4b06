use Rattle.std.proofs.Common.{length}
use Rattle.schedule_trie.specs.Trie.{keys_in}
use Rattle.schedule_trie.specs.Climbs.{keys_to}
use Rattle.schedule_trie.proofs.limbs.OwnParts.{IsClimbing}
use Rattle.cutoff.proofs.FoundFits.{IsUnseen}
use Rattle.cutoff.proofs.plan.unseen_keys.Given as goal

abbrev pub invariant-loop-at : goal.invariant-loop-at
invariant-loop-at g l = record { climbing : IsClimbing (IsUnseen l.seen) (keys_in l.base.trie.now.branches l.index) l.at l.keys.items }

abbrev pub decreases-loop-at : goal.decreases-loop-at
decreases-loop-at g l = length (keys_to (keys_in l.base.trie.now.branches l.index) l.at)
