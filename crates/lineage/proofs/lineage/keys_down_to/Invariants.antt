use Rattle.std.proofs.Common.{◌≡◌, ◌++◌, length}
use Rattle.lineage.specs.Climbs.{Ends}
use Rattle.lineage.specs.Lineages.{link_at, keys_up}
use Rattle.lineage.proofs.lineage.keys_down_to.Given as goal

abbrev pub invariant-loop-at : goal.invariant-loop-at
invariant-loop-at g l = record {
  ends : Ends (link_at l.nodes.slots) l.at;
  so_far : l.keys.items ++ keys_up l.nodes.slots l.at ≡ keys_up l.nodes.slots l.fn.tip;
}

abbrev pub decreases-loop-at : goal.decreases-loop-at
decreases-loop-at g l = length (keys_up l.nodes.slots l.at)
