use Rattle.std.proofs.Common.{◌≡◌, ◌≤◌, ◌-◌, [], replicate, vec_len}
use Rattle.sessions.proofs.breaks.no_breaks.Given as goal

abbrev pub invariant-loop-alloc : goal.invariant-loop-alloc
invariant-loop-alloc l = record {
  none : l.breaks.items ≡ replicate (vec_len l.breaks) [];
  few : vec_len l.breaks ≤ 16;
}

abbrev pub decreases-loop-alloc : goal.decreases-loop-alloc
decreases-loop-alloc l = 16 - vec_len l.breaks
