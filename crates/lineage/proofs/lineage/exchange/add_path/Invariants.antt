use Rattle.std.proofs.Common.{◌≡◌, ◌+◌, ◌<◌, ◌≤◌, ◌^◌, length}
use Rattle.std.specs.Vec.Iter.{into_iter_items, into_iter_len}
use Rattle.slab.specs.Slab.{slab_len}
use Rattle.lineage.proofs.AddedPaths.{IsAddedSoFar}
use Rattle.lineage.proofs.lineage.exchange.add_path.Given as goal

abbrev pub invariant-loop-item : goal.invariant-loop-item
invariant-loop-item g l = record {
  added : IsAddedSoFar l.fn.nodes.slots l.nodes.slots l.fn.tips.items l.tips.items l.fn.items.items (into_iter_items l.item-iterator);
  room : slab_len l.nodes + length (into_iter_items l.item-iterator) ≤ l.nodes.capacity;
  few : length l.tips.items + (slab_len l.nodes + length (into_iter_items l.item-iterator)) < 2 ^ 64;
  last : l.last ≡ length l.fn.tips.items;
  len : into_iter_len l.item-iterator ≡ length (into_iter_items l.item-iterator);
}
