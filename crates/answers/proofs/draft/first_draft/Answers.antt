use Rattle.std.proofs.Common.{refl}
use Rattle.answers.proofs.Tidying.{draft_first}
use Rattle.answers.proofs.draft.first_draft.Goals as goal

pub returns : goal.returns
returns g c =
    let r = c.args.moves.now.register in
    draft_first g.R.Behaves.behaviour (g.R.Behaves.behaviour r) c.args.moves.now.question.now r c.in-Ok.state c.new-steps.result.items refl c.in-Ok.ensures c.new-steps.ensures.items
