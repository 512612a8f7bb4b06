use Rattle.answers.specs.Answers.{AllAnswered}
use Rattle.answers.proofs.tidy.tidy.Given as goal

abbrev pub invariant-loop-index : goal.invariant-loop-index
invariant-loop-index g l = AllAnswered (g.R.Behaves.behaviour l.moves.register) l.moves.question.now l.found.items
