use Rattle.std.proofs.Common.{◌≡◌, ◌++◌, ◌+◌, length}
use Rattle.frames.specs.Recorded.{indexed}
use Rattle.checkpoints.proofs.events.EventWalk.push_indexed.Given as goal

abbrev pub invariant-loop-reported : goal.invariant-loop-reported
invariant-loop-reported l = record {
  all : l.all.items ++ indexed l.index l.left ≡ l.initial.all.items ++ indexed l.initial.index l.initial.left;
  index : l.index + length l.left ≡ l.initial.index + length l.initial.left;
}

abbrev pub decreases-loop-reported : goal.decreases-loop-reported
decreases-loop-reported l = length l.left
