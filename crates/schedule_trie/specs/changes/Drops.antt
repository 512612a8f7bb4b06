-- Dropping a branch.
use Rattle.std.specs.Prelude.{◌≡◌, ℕ}
use Rattle.std.specs.List.{remove}
use Rattle.schedule_trie.specs.Trie.{TrieOf, forest, IsCut, KeepsAllNotes}

-- from trie `old` to trie `new`, the branch at `index` is dropped, and so are the segments that no
-- other branch has; all other segments keep their cells and notes
pub record IsDropped {T : Type 0} (old new : TrieOf T) (index : ℕ) : Type 0 where
  pub branches : (forest new).branches ≡ remove (forest old).branches index
  pub made : new.made ≡ old.made
  pub limits : new.limits ≡ old.limits
  pub notes : KeepsAllNotes old new
  pub cut : IsCut new
