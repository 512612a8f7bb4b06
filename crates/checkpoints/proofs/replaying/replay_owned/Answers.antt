use Rattle.std.proofs.Common.{◌≡◌, ◌∙◌, ◌+◌, ◌<◌, take, drop, get_or, length, ap, subst}
use Rattle.frames.specs.declared.types.Step.TheVariants.{Write}
use Rattle.checkpoints.specs.StoredEvents.{stored_events}
use Rattle.checkpoints.specs.MarkedSteps.{reported_events}
use Rattle.checkpoints.proofs.Replays.{still_under_way, next_left, next_made}
use Rattle.checkpoints.proofs.MarkedEvents.{reported_more}
use Rattle.checkpoints.proofs.replaying.replay_owned.Goals as goal

pub loop-item-preserved : goal.loop-item-preserved
loop-item-preserved g c =
    let at = c.loop-item in
    let so_far = at.invariant in
    let all = c.args.steps.items in
    let i = at.item-index in
    let step = c.step-step.result in
    let items = c.as_slice-item-items.ensures.value in
    let within : i < length all = subst (λ l. i < length l) items c.loop-item-test.true in
    let here = subst (λ l. step ≡ get_or l i (Write 0 0)) items c.step-step.ensures in
    let one = c.step-recorded.result in
    let more = reported_more (take i all) (take (i + 1) all) at.marks.items c.push_reported.new.marks.items (stored_events at.events.items) (stored_events c.push_reported.new.events.items) step one
    so_far.are_reported (next_made all i step (Write 0 0) within here) c.in_ok-push_reported.ensures.added in
    record {
      under_way = still_under_way g.R.Behaves.behaviour c.args.entry at.config c.step-recorded.new.self step all (drop i all) (drop (i + 1) all)
          (reported_events (take i all) at.marks.items (stored_events at.events.items)) (reported_events (take (i + 1) all) c.push_reported.new.marks.items (stored_events c.push_reported.new.events.items)) one
          (next_left all i step (Write 0 0) within here) c.step-recorded.ensures.after c.step-recorded.ensures.events more.reports so_far.under_way;
      are_reported = more.read_first;
      marks_room = c.push_reported.ensures.marks_room ∙ so_far.marks_room;
      marked = c.in_ok-push_reported.ensures.marks ∙ ap (λ n. n + 1) so_far.marked;
    }
