use Rattle.std.proofs.Common.{◌≡◌, ℕ, ◌<◌, true}
use Rattle.answers.specs.States.{is_over}
use Rattle.answers.proofs.done.is_done.Given as goal

abbrev pub invariant-loop-p : goal.invariant-loop-p
invariant-loop-p g l = (p : ℕ) → p < l.p → is_over l.moves.question.now l.state p ≡ true
