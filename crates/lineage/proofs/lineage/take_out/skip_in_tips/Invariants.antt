use Rattle.std.proofs.Common.{◌≡◌, ◌<◌, ◌≤◌, ℕ, length}
use Rattle.lineage.specs.Lineages.{past, tip_at}
use Rattle.lineage.proofs.lineage.take_out.skip_in_tips.Given as goal

abbrev pub invariant-loop-place : goal.invariant-loop-place
invariant-loop-place l = record {
  many : length l.tips.items ≡ length l.initial.tips.items;
  done : (k : ℕ) → k < l.place → tip_at l.tips.items k ≡ past l.key l.above (tip_at l.initial.tips.items k);
  later : (k : ℕ) → l.place ≤ k → tip_at l.tips.items k ≡ tip_at l.initial.tips.items k;
}
