use Rattle.std.proofs.Common.{◌≤◌, take}
use Rattle.desk.specs.Worth.{steps_of_all}
use Rattle.desk.proofs.worth.step_count.Given as goal

-- the steps are no more than those of the jobs so far
abbrev pub invariant-loop-job : goal.invariant-loop-job
invariant-loop-job g l = l.steps ≤ steps_of_all (take l.job-index l.jobs)
