use Rattle.std.proofs.Common.{◌≡◌, length, take, drop, vec_len, vec_capacity}
use Rattle.checkpoints.specs.StoredEvents.{stored_events}
use Rattle.checkpoints.specs.MarkedSteps.{reported_events}
use Rattle.checkpoints.proofs.MarkedEvents.{AreReadFirst}
use Rattle.checkpoints.proofs.Replays.{IsUnderWay}
use Rattle.checkpoints.proofs.replaying.replay_owned.Given as goal

-- the replay so far, and that of the steps still to be made, are together the whole replay
abbrev pub invariant-loop-item : goal.invariant-loop-item
invariant-loop-item g l =
    let all = l.fn.steps.items in
    let made = take l.item-index all in
    let left = drop l.item-index all in
    record {
      under_way : IsUnderWay g.R.Behaves.behaviour l.fn.entry l.config all left (reported_events made l.marks.items (stored_events l.events.items));
      are_reported : AreReadFirst made l.marks.items (stored_events l.events.items);
      marks_room : vec_capacity l.marks ≡ length all;
      marked : vec_len l.marks ≡ l.item-index;
    }
