use Rattle.std.proofs.Common.{◌-◌, ◌≤◌}
use Rattle.answers.proofs.tidy.rival.Given as goal

abbrev pub invariant-loop-index : goal.invariant-loop-index
invariant-loop-index g l = l.costliest ≤ l.index - 1
