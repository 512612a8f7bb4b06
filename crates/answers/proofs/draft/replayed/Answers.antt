use Rattle.answers.proofs.Tidying.{draft_more}
use Rattle.answers.proofs.draft.replayed.Goals as goal

pub loop-step-preserved : goal.loop-step-preserved
loop-step-preserved g c =
    let r = c.args.moves.now.register in
    draft_more g.R.Behaves.behaviour (g.R.Behaves.behaviour r) c.args.moves.now.question.now (g.R.Register.Holds r) (g.R.Register.Reaches r) (g.met.R.Register.lawful r)
    _ _ _ _ c.process.result c.kind_of.result c.in-Some.same c.loop-step.invariant c.in-Some.ensures.named c.in-Some.ensures.fits c.in-Ok-with_step.ensures.steps c.in-Ok-with_step.ensures.state
