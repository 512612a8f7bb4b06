use Rattle.std.proofs.Common.{[], arith}
use Rattle.std.proofs.KnownBytes.{Consumes-nil}
use Rattle.conversation.proofs.Pieces.{fault_memory, fault_last_write, leaves_at_end}
use Rattle.conversation.proofs.converse.Conversation.finish.Goals as goal

pub returns-in_default-clause-ended : goal.returns-in_default-clause-ended
returns-in_default-clause-ended g c = λ alone start before unread count short ended r.
    fault_memory g.A.Answers.define start before _ count _ _ _ r unread [] (Consumes-nil unread) (omega (arith, short))

pub returns-in_default-send-clause-ended : goal.returns-in_default-send-clause-ended
returns-in_default-send-clause-ended g c = λ alone start before unread count short ended r.
    let front = c.in_default-send.ensures.front in
    fault_last_write g.A.Answers.define start before _ count _ _ _ r g.A.Answers.reads_front ended short _ c.args.self.now.out.items _ c.requires.sent (c.in-Ok.ensures.answer alone) _ front.0 front.1 front.2

pub returns-clause-ended : goal.returns-clause-ended
returns-clause-ended g c = λ alone start before unread count short ended r.
    leaves_at_end g.A.Answers.define start before _ count _ _ _ r g.A.Answers.reads_front ended short _ c.args.self.now.out.items _ c.requires.sent (c.in-Ok.ensures.answer alone) _ c.in-Ok-send.ensures.sent
