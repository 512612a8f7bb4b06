use Rattle.std.proofs.Common.{[], sym, subst, append-nil}
use Rattle.std.specs.Io.KnownBytes.{Appends}
use Rattle.std.proofs.KnownBytes.{Appends-kept}
use Rattle.conversation.proofs.converse.Conversation.send.Goals as goal

pub returns-in_default-clause-front : goal.returns-in_default-clause-front
returns-in_default-clause-front g c =
    let out = c.args.self.now.out.items in
    let before = g.W.Write.contents c.args.writer.now in
    let after = g.W.Write.contents c.flush.new.self in (
      out,
      ([], sym (append-nil out)),
      subst (Appends before after) c.deref.ensures.value
          (Appends-kept before _ after _ c.in_ok-write_whole.ensures.written c.flush.ensures.bytes),
    )
