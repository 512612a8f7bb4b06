use Rattle.std.proofs.Common.{◌≡◌, ℕ, None, length}
use Rattle.schedule_trie.specs.Marks.{mark_at}
use Rattle.schedule_trie.proofs.trie.Trie.no_marks.Given as goal

abbrev pub invariant-loop : goal.invariant-loop
invariant-loop g l = record {
  count : length l.marks.items ≡ l.counter;
  empty : (k : ℕ) → mark_at l.marks.items k ≡ None;
}
