use Rattle.std.proofs.Common.{sym, ap, ◌∙◌}
use Rattle.answers.specs.laws.StateLaws.{answers_eq}
use Rattle.answers.proofs.Tidying.{done_steps}
use Rattle.answers.proofs.tidy.steps_like.Goals as goal

pub returns-clause-sound : goal.returns-clause-sound
returns-clause-sound g c =
    let r = c.args.moves.now.register in
    done_steps g.R.Behaves.behaviour (g.R.Behaves.behaviour r) c.args.moves.now.question.now c.args.draft.steps c.args.draft.state c.args.possible.now
    c.requires (c.is_done.ensures.0 c.if-not-is_done.false)
    (ap (answers_eq c.args.draft.state.answers) (sym c.deref.ensures.value) ∙ (sym c.has_answers.ensures ∙ c.if-not-has_answers.false))
