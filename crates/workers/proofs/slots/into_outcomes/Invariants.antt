use Rattle.std.proofs.Common.{◌≡◌, ◌++◌, map, All, vec_capacity, vec_len}
use Rattle.std.specs.Prelude.{Some, IsSome}
use Rattle.std.specs.Vec.Iter.{into_iter_items, into_iter_len}
use Rattle.workers.proofs.ReservedRoom.{IsRoomReserved}
use Rattle.workers.proofs.slots.into_outcomes.Given as goal

abbrev pub invariant-loop-slot : goal.invariant-loop-slot
invariant-loop-slot g l = record {
  whole : l.fn.slots.items ≡ map Some l.all.items ++ into_iter_items l.slot-iterator;
  full : All IsSome (into_iter_items l.slot-iterator);
  room : IsRoomReserved (into_iter_items l.slot-iterator) (into_iter_len l.slot-iterator) (vec_len l.all) (vec_capacity l.all);
}
