use Rattle.std.proofs.Common.{◌≡◌, ℕ, ◌<◌, None}
use Rattle.answers.specs.Questions.{next_of}
use Rattle.answers.specs.States.{ended_counts}
use Rattle.answers.proofs.cycles.first_free.Given as goal

abbrev pub invariant-loop-p : goal.invariant-loop-p
invariant-loop-p l = (p : ℕ) → p < l.p → next_of l.question (ended_counts l.answers) p ≡ None
