use Rattle.frames.specs.SafeBit.{safe_behaviour}
use Rattle.frames.specs.Recorded.{AllFit}
use Rattle.branch_tests.proofs.charts.steps.writes.Given as goal

abbrev pub invariant-loop-index : goal.invariant-loop-index
invariant-loop-index l = AllFit safe_behaviour l.steps.items
