use Rattle.answers.specs.States.{IsStateOfRun}
use Rattle.answers.proofs.draft.replayed.Given as goal

abbrev pub invariant-loop-step : goal.invariant-loop-step
invariant-loop-step g l = IsStateOfRun g.R.Behaves.behaviour (g.R.Behaves.behaviour l.moves.register) l.moves.question.now.value l.moves.question.now l.draft.steps.items l.draft.state
