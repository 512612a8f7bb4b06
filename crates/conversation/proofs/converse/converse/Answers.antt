use Rattle.std.proofs.Common.{◌≡◌, refl, ap, arith}
use Rattle.conversation.proofs.Pieces.{reached_start, fault_read, fault_too_long, end_after_last_read}
use Rattle.conversation.proofs.converse.converse.Goals as goal

pub reads-init : goal.reads-init
reads-init g c =
    let none : c.args.taken.now.bytes ≡ 0 = ap (λ taken. taken.bytes) c.requires.unread in
    record {
      few = omega (arith, c.new-conversation.ensures.lines, none);
      within = omega (arith, none);
      sent = c.new-conversation.ensures.out;
      reached = λ alone. (
        alone,
        rw none (reached_start g.A.Answers.define _ _ _ _ c.new-conversation.ensures.lines c.new-conversation.ensures.line),
      );
    }

pub returns-in_default-clause-fault : goal.returns-in_default-clause-fault
returns-in_default-clause-fault g c = λ alone.
    fault_read g.A.Answers.define _ _ _ _ _ _ _ (c.reads.invariant.reached alone).1 _ c.in_default.ensures.kept c.reads.invariant.within

pub returns-in_default-piece-clause-done : goal.returns-in_default-piece-clause-done
returns-in_default-piece-clause-done g c = λ alone.
    let r = c.reads.invariant.reached alone in
    let bytes = rw c.in_default-piece.is at c.in-Ok.ensures.bytes in
    (end_after_last_read g.A.Answers.define _ _ _ _ _ _ _ r.1 _ bytes.0 _ _ c.finish.result (c.finish.ensures.ended r.0 _ _ _ _ (c.reads-test.ensures.yes refl).0 bytes.1)).done

pub returns-in_default-piece-clause-fault : goal.returns-in_default-piece-clause-fault
returns-in_default-piece-clause-fault g c = λ alone.
    let r = c.reads.invariant.reached alone in
    let bytes = rw c.in_default-piece.is at c.in-Ok.ensures.bytes in
    (end_after_last_read g.A.Answers.define _ _ _ _ _ _ _ r.1 _ bytes.0 _ _ c.finish.result (c.finish.ensures.ended r.0 _ _ _ _ (c.reads-test.ensures.yes refl).0 bytes.1)).fault

pub returns-clause-fault : goal.returns-clause-fault
returns-clause-fault g c = λ alone.
    fault_too_long g.A.Answers.define _ _ _ _ _ _ _ (c.reads.invariant.reached alone).1 c.reads.invariant.within
