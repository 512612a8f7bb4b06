use Rattle.std.proofs.Common.{◌++◌, ap, sym, ◌∙◌, map, append-nil}
use Rattle.std.specs.Prelude.{IsSome, Some}
use Rattle.std.specs.Vec.Iter.{into_iter_items}
use Rattle.std.proofs.lemmas.List.{nil_from_length}
use Rattle.std.proofs.lemmas.List.Elements.{All-rest}
use Rattle.workers.proofs.FilledSlots.{not_empty, outcomes_more}
use Rattle.workers.proofs.ReservedRoom.{room_for_next, room_for_rest}
use Rattle.workers.proofs.slots.into_outcomes.Goals as goal

pub unreachable-requires : goal.unreachable-requires
unreachable-requires g c = not_empty c.in-Some.slot _ _ c.in-Some.ensures.steps.0 c.loop-slot.invariant.full c.in_default.is

pub push_reserved-requires : goal.push_reserved-requires
push_reserved-requires g c = room_for_next _ _ c.in-Some.slot _ _ _ c.in-Some.ensures.steps.0 c.loop-slot.invariant.room

pub loop-slot-preserved : goal.loop-slot-preserved
loop-slot-preserved g c = record {
  whole = outcomes_more _ _ _ c.in-Some.slot _ _ c.in-Some-slot.done c.in-Some.ensures.steps.0 c.in-Some-slot.is c.push_reserved.ensures.items c.loop-slot.invariant.whole;
  full = All-rest IsSome c.in-Some.slot _ _ c.in-Some.ensures.steps.0 c.loop-slot.invariant.full;
  room = room_for_rest _ _ c.in-Some.slot _ _ _ c.in-Some.ensures.steps.0 c.loop-slot.invariant.room _ _ _ c.in-Some.ensures.steps.1 c.push_reserved.ensures.len c.push_reserved.ensures.capacity;
}

pub returns : goal.returns
returns g c =
    let was = c.loop-slot.invariant in
    let none = nil_from_length (into_iter_items c.loop-slot.slot-iterator) (sym was.room.count ∙ c.in-None.ensures.steps.0) in
    was.whole ∙ ap (λ l. map Some c.loop-slot.all.items ++ l) none ∙ append-nil (map Some c.loop-slot.all.items)
