use Rattle.std.proofs.Common.{◌≡◌, ℕ, ◌<◌, length}
use Rattle.answers.specs.Questions.{operations_of}
use Rattle.answers.specs.States.{ended_counts}
use Rattle.answers.proofs.cycles.have_all_ended.Given as goal

abbrev pub invariant-loop-p : goal.invariant-loop-p
invariant-loop-p l = (p : ℕ) → p < l.p → ended_counts l.answers p ≡ length (operations_of l.question p)
