use Rattle.std.proofs.Common.{ℕ, List, Option, length}
use Rattle.lineage.specs.Lineages.{keys_up, IsReleasing}
use Rattle.lineage.proofs.lineage.release.free_up.Given as goal

abbrev pub invariant-loop-key : goal.invariant-loop-key
invariant-loop-key g l =
    (tips : List (Option ℕ)) → IsReleasing l.initial.nodes.slots l.initial.nodes.slots tips l.initial.at → IsReleasing l.initial.nodes.slots l.nodes.slots tips l.at

abbrev pub decreases-loop-key : goal.decreases-loop-key
decreases-loop-key g l = length (keys_up l.nodes.slots l.at)
