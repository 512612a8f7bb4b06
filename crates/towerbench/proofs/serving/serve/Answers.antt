use Rattle.std.proofs.Common.{subst}
use Rattle.conversation.specs.Conversations.{EndsWithFault, IsAnswered}
use Rattle.conversation.specs.Streams.{streams}
use Rattle.conversation.specs.Scripts.{answers_to}
use Rattle.script.specs.Answers.{answer_line}
use Rattle.towerbench.specs.Seats.{Seated, IsAlone, world_at}
use Rattle.towerbench.proofs.serving.serve.Goals as goal

pub returns-clause-fault : goal.returns-clause-fault
returns-clause-fault g c =
    let e = c.in-Err.fault in λ all. (
      e,
      c.fault_of_stream.ensures,
      subst (λ (s : Seated g.row.B.Denot g.row.B-Pending.Denot). IsAlone s → EndsWithFault (answers_to answer_line (world_at g.B.Behaves.behaviour s)) e
          (streams (g.R.Read.remaining c.args.reader.now) (g.W.Write.contents c.args.writer.now)) (streams (g.R.Read.remaining c.serve_at.new.reader) (g.W.Write.contents c.serve_at.new.writer))) c.new-seat.ensures
          c.in-Err.ensures.fault all,
    )

pub returns-clause-of_streams : goal.returns-clause-of_streams
returns-clause-of_streams g c = (c.in-Err.fault, c.fault_of_stream.ensures)

pub returns-in-Ok-clause-done : goal.returns-in-Ok-clause-done
returns-in-Ok-clause-done g c =
    subst (λ (s : Seated g.row.B.Denot g.row.B-Pending.Denot). IsAlone s → IsAnswered (answers_to answer_line (world_at g.B.Behaves.behaviour s))
    (streams (g.R.Read.remaining c.args.reader.now) (g.W.Write.contents c.args.writer.now)) (streams (g.R.Read.remaining c.serve_at.new.reader) (g.W.Write.contents c.serve_at.new.writer))) c.new-seat.ensures
    (λ all. (c.in-Ok.ensures.done all).answered)
