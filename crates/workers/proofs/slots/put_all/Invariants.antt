use Rattle.std.proofs.Common.{◌≡◌, ◌<◌, length, All}
use Rattle.std.specs.Vec.Iter.{into_iter_items, into_iter_len}
use Rattle.workers.specs.Slots.{with_all}
use Rattle.workers.proofs.slots.put_all.Given as goal

-- with the outcomes that are left, the slots are those that `with_all` gives
abbrev pub invariant-loop-taken : goal.invariant-loop-taken
invariant-loop-taken g l = record {
  later : with_all l.slots.items (into_iter_items l.taken-iterator) ≡ with_all l.initial.slots.items (into_iter_items l.initial.taken-iterator);
  within : All (λ t. t.index < length l.slots.items) (into_iter_items l.taken-iterator);
  len : into_iter_len l.taken-iterator ≡ length (into_iter_items l.taken-iterator);
}
