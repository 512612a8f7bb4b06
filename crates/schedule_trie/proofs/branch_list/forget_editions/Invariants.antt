use Rattle.std.proofs.Common.{ℕ, ◌≡◌, ◌<◌, length, slice_get}
use Rattle.std.specs.Option.{IfSome}
use Rattle.std.specs.Map.{keys_of}
use Rattle.schedule_trie.proofs.branch_list.forget_editions.Given as goal

abbrev pub invariant-loop-index : goal.invariant-loop-index
invariant-loop-index l = record {
  names : keys_of l.entries.entries ≡ keys_of l.fn.entries.entries;
  count : length l.entries.entries ≡ length l.fn.entries.entries;
  first : (i : ℕ) → i < l.index → IfSome (slice_get l.entries.entries i) (λ e. e.1.edition < 1);
}
