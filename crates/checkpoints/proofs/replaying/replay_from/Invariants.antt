use Rattle.std.proofs.Common.{◌≡◌, ◌++◌, map, length, drop, vec_len, vec_capacity}
use Rattle.checkpoints.specs.StoredEvents.{stored_events}
use Rattle.checkpoints.specs.MarkedSteps.{reported_events}
use Rattle.checkpoints.proofs.MarkedEvents.{AreReadFirst}
use Rattle.checkpoints.proofs.Replays.{IsUnderWay}
use Rattle.checkpoints.proofs.replaying.replay_from.Given as goal

-- the replay so far, and that of the steps still to be made, are together the whole replay
abbrev pub invariant-loop-item : goal.invariant-loop-item
invariant-loop-item g l =
    let all = map g.S.HasStep.step_in l.items in
    let left = map g.S.HasStep.step_in (drop l.item-index l.items) in
    record {
      under_way : IsUnderWay g.R.Behaves.behaviour l.fn.entry l.config all left (reported_events l.steps.items l.marks.items (stored_events l.events.items));
      steps : l.steps.items ++ left ≡ all;
      are_reported : AreReadFirst l.steps.items l.marks.items (stored_events l.events.items);
      steps_room : vec_capacity l.steps ≡ length l.items;
      made : vec_len l.steps ≡ l.item-index;
      marks_room : vec_capacity l.marks ≡ length l.items;
      marked : vec_len l.marks ≡ l.item-index;
    }
