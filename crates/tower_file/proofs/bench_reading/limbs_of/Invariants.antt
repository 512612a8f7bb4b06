use Rattle.std.proofs.Common.{◌+◌, ◌≤◌, ◌^◌, length}
use Rattle.tower_file.proofs.LimbLoop.{IsSoFar}
use Rattle.tower_file.proofs.bench_reading.limbs_of.Given as goal

abbrev pub invariant-reading : goal.invariant-reading
invariant-reading l = record {
  few : l.number + length l.lines ≤ 2 ^ 63 + 3;
  so_far : IsSoFar l.tower l.fn.lines l.number l.limbs l.lines;
}

abbrev pub decreases-reading : goal.decreases-reading
decreases-reading l = length l.lines
