use Rattle.std.proofs.Common.{arith}
use Rattle.std.proofs.lemmas.Result.{IfOk-from_err}
use Rattle.schedule_trie.proofs.detaches.Renumbered.{renumbered_more, renumbered_all}
use Rattle.schedule_trie.proofs.segment.Segment.renumbered.Goals as goal

pub loop-slot-preserved : goal.loop-slot-preserved
loop-slot-preserved g c =
    let was = c.loop-slot.invariant in (
      renumbered_more c.args.slots.now c.args.first c.loop-slot.cell c.loop-slot.slot-index c.loop-slot.renumbered.items
          was.0 _ c.push.new.self.items c.loop-slot-test.true c.in_ok-push.ensures.items,
      omega (arith, was.1),
    )

pub returns-in_err-push-clause-slots : goal.returns-in_err-push-clause-slots
returns-in_err-push-clause-slots g c = IfOk-from_err _ _ c.from_residual-in_err-push.ensures.0

pub returns-in_err-push-clause-note : goal.returns-in_err-push-clause-note
returns-in_err-push-clause-note g c = IfOk-from_err _ _ c.from_residual-in_err-push.ensures.0

pub returns-clause-slots : goal.returns-clause-slots
returns-clause-slots g c =
    renumbered_all c.args.slots.now c.args.first c.loop-slot.cell c.loop-slot.slot-index c.loop-slot.renumbered.items
    c.loop-slot.invariant.0 c.loop-slot-test.false
