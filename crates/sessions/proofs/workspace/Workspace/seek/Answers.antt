use Rattle.std.specs.Prelude.{slice_set}
use Rattle.sessions.specs.Books.{stored}
use Rattle.sessions.proofs.SeekAnswers.{put_cursor_none, put_cursor_some, seek_carried_out, seek_lacks_memory}
use Rattle.sessions.proofs.workspace.Workspace.seek.Goals as goal
use Rattle.sessions.proofs.workspace.Workspace.seek.Goals.{then-is_some, else-is_some}

pub returns : goal.returns
returns g c = λ n.
    let who = c.args.who in
    let s = c.hit_of.new.self in
    let found = c.in_ok-hit in
    let so = seek_carried_out g.R.Behaves.behaviour (stored c.args.self.now n) (stored s n) who c.args.way (found.ensures.world n) found.hit in
    elim c.if-is_some.branch [
      | then-is_some w ↦
          rw w.self-is (so (slice_set s.cursors who found.hit) c.hit_reply-reply.result (found.ensures.hit n) (put_cursor_some who found.hit s.cursors w.if-is_some.ensures) c.hit_reply-reply.ensures)
      | else-is_some w ↦
          rw w.self-is (so s.cursors c.hit_reply-reply.result (found.ensures.hit n) (put_cursor_none who found.hit s.cursors w.if-is_some.ensures) c.hit_reply-reply.ensures)
    ]

pub returns-in_err-hit : goal.returns-in_err-hit
returns-in_err-hit g c = λ n.
    seek_lacks_memory g.R.Behaves.behaviour (stored c.args.self.now n) (stored c.hit_of.new.self n) c.args.who c.args.way (c.in_err-hit.ensures.world n)
    c.from_residual.result _ c.from_residual.ensures.1 (λ x h. h)
