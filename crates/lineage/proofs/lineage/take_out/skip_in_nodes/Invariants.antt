use Rattle.std.proofs.Common.{◌≡◌, ◌<◌, ◌≤◌, ℕ}
use Rattle.slab.specs.Slab.{get}
use Rattle.lineage.specs.Lineages.{past_node}
use Rattle.lineage.proofs.lineage.take_out.skip_in_nodes.Given as goal

abbrev pub invariant-loop-place : goal.invariant-loop-place
invariant-loop-place g l = record {
  done : (k : ℕ) → k < l.place → get l.nodes k ≡ past_node l.key l.above (get l.initial.nodes k);
  later : (k : ℕ) → l.place ≤ k → get l.nodes k ≡ get l.initial.nodes k;
}
