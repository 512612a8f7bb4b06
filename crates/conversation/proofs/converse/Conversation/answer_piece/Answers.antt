use Rattle.std.proofs.Common.{ap, refl}
use Rattle.conversation.proofs.Pieces.{fault_memory, fault_write, reached_more, answered_between_pieces}
use Rattle.conversation.proofs.converse.Conversation.answer_piece.Goals as goal

pub returns-in_default-clause-answered : goal.returns-in_default-clause-answered
returns-in_default-clause-answered g c = λ alone start before unread next count read few r.
    fault_memory g.A.Answers.define start before _ count _ _ _ r next c.args.piece.now read few

pub returns-in_default-send-clause-answered : goal.returns-in_default-send-clause-answered
returns-in_default-send-clause-answered g c = λ alone start before unread next count read few r.
    let answered_so_far = c.in-Ok.ensures.reported alone start r.seen r.text (answered_between_pieces g.A.Answers.define start before _ count _ _ _ r c.args.self.now.out.items c.requires.sent) in
    let front = c.in_default-send.ensures.front in
    fault_write g.A.Answers.define start before _ count _ _ _ r next c.args.piece.now read _ refl _ _ _ _ answered_so_far _ front.0 front.1 front.2 few

pub returns-clause-answered : goal.returns-clause-answered
returns-clause-answered g c = λ alone start before unread next count read few r.
    let answered_so_far = c.in-Ok.ensures.reported alone start r.seen r.text (answered_between_pieces g.A.Answers.define start before _ count _ _ _ r c.args.self.now.out.items c.requires.sent) in
    reached_more g.A.Answers.define start before _ count _ _ _ r next c.args.piece.now read _ refl _ _ _ _ answered_so_far _ _ _ c.send.ensures.lines (ap (λ line. line.items) c.send.ensures.line) c.in-Ok-send.ensures.sent
