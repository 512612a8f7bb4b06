use Rattle.std.proofs.Common.{◌≡◌, ◌≤◌, ◌+◌, length, take, drop}
use Rattle.schedule_trie.specs.Trie.{line, segment_at, keys_in}
use Rattle.schedule_trie.specs.changes.Detaches.{AreCopies}
use Rattle.schedule_trie.proofs.trie.Trie.copies.Given as goal
use Rattle.branch_terms.specs.declared.limits.TheConstants.{MOST_CELLS_MADE}

abbrev pub invariant-loop-key : goal.invariant-loop-key
invariant-loop-key g l = record {
  copies : AreCopies (segment_at l.self.segments) l.self.made (take l.key-index l.key-items) l.copies.items;
  cell : l.cell ≡ l.self.made + length (line (segment_at l.self.segments) (take l.key-index l.key-items));
  rest : l.cell + length (line (segment_at l.self.segments) (drop l.key-index l.key-items)) ≡ l.self.made + length (line (segment_at l.self.segments) l.key-items);
  fits : l.self.made + length (line (segment_at l.self.segments) l.key-items) ≤ MOST_CELLS_MADE;
  keys : l.key-items ≡ keys_in l.self.branches l.index;
}
