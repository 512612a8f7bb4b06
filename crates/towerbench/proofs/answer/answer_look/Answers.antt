use Rattle.sessions.specs.Looks.{looked_in}
use Rattle.towerbench.specs.Seats.{world_at}
use Rattle.towerbench.proofs.LookAnswers.{refusal_answered, page_answered}
use Rattle.towerbench.proofs.answer.answer_look.Goals as goal

pub returns-in-Err-clause-text : goal.returns-in-Err-clause-text
returns-in-Err-clause-text g c = λ alone.
    refusal_answered (looked_in (world_at g.R.Behaves.behaviour c.args.seat.now) c.args.query) c.args.session c.in-Err.refusal c.push_reply.result _ _ _ (c.in-Err.ensures.err alone) c.push_reply.ensures

pub returns-in-Ok-clause-text : goal.returns-in-Ok-clause-text
returns-in-Ok-clause-text g c = λ alone.
    page_answered (world_at g.R.Behaves.behaviour c.args.seat.now) c.args.query c.args.session c.in-Ok.page c.push_page.result _ _ (c.in-Ok.ensures.found alone) (c.in-Ok.ensures.page alone) c.push_page.ensures
