-- A fork, as a change of the trie.
use Rattle.std.specs.Prelude.{ℕ, ◌≡◌, List, [], ◌∷◌, ◌++◌, Some, length, take}
use Rattle.branch_terms.specs.Forest.{branch, index_of, slots_in}
use Rattle.schedule_trie.specs.Trie.{TrieOf, forest, keyed_branch, keys_in, IsCut, KeepsNotesExcept, IsParted}

-- from trie `old` to trie `new`, a branch of this name is added at the end of the list of branches,
-- with the first `place` cells of the branch at `index`; only a segment that has cells on both
-- sides of that place, and is cut there, loses its note
pub record IsBranchForked {T : Type 0} (old new : TrieOf T) (index place : ℕ) (name : List ℕ) : Type 0 where
  pub branches : (forest new).branches ≡ (forest old).branches ++ branch name (take place (slots_in (forest old).branches index)) ∷ []
  pub made : new.made ≡ old.made
  pub limits : new.limits ≡ old.limits
  pub notes : (source : List ℕ) → index_of (forest old).branches source ≡ Some index → KeepsNotesExcept old new (IsParted old source place)
  pub cut : IsCut new

-- from trie `old` to trie `new`, a branch of this name is added at the end of the list of branches,
-- with all segments of the branch at `index`; no segment changes
pub record IsForkedWhole {T : Type 0} (old new : TrieOf T) (index : ℕ) (name : List ℕ) : Type 0 where
  pub branches : new.branches ≡ old.branches ++ keyed_branch name (keys_in old.branches index) ∷ []
  pub segments : new.segments ≡ old.segments

-- if `place` is the length of the branch `source`, a fork there cuts no segment: the new branch has
-- all segments of `source`, and no segment changes
abbrev pub CutsNoneAtEnd : {T : Type 0} → TrieOf T → TrieOf T → List ℕ → ℕ → List ℕ → Type 0
CutsNoneAtEnd old new source place name =
    (index : ℕ) → index_of (forest old).branches source ≡ Some index → place ≡ length (slots_in (forest old).branches index) → IsForkedWhole old new index name
