use Rattle.std.proofs.Common.{◌≡◌, ◌≤◌, ℕ, length}
use Rattle.answers.specs.Questions.{operations_of}
use Rattle.answers.specs.States.{ended_counts}
use Rattle.answers.proofs.Ranked.{IsRankedTo, missing}
use Rattle.answers.proofs.cycles.is_acyclic.Given as goal

-- no process has ended more operations than it has, and those that have ended are ranked
abbrev pub invariant-loop-p : goal.invariant-loop-p
invariant-loop-p l = record {
  each : length l.answers.items ≡ l.processes;
  few : (p : ℕ) → ended_counts l.answers.items p ≤ length (operations_of l.question p);
  ranked : IsRankedTo l.question (ended_counts l.answers.items);
}

abbrev pub decreases-loop-p : goal.decreases-loop-p
decreases-loop-p l = missing l.question.operations.items l.answers.items
