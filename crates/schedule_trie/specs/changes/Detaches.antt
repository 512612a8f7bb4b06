-- Detaching a branch: copies of its segments, with new cells.
use Rattle.std.specs.Prelude.{◌≡◌, ℕ, ◌+◌, List, [], ◌∷◌, Option, None, length}
use Rattle.schedule_trie.specs.declared.segment.Segment.{Segment}
use Rattle.branch_terms.specs.Forest.{renumbered, only_in, slots_in}
use Rattle.schedule_trie.specs.Trie.{TrieOf, SegmentOf, slots_of, forest, IsCut, KeepsAllNotes}

-- the listed segments are copies of the segments at these keys, in the same order: each copy has
-- the steps of its original and no note, and the cells of all copies are numbered in order, from n
-- on
abbrev pub AreCopies : {T : Type 0} → (ℕ → Option (SegmentOf T)) → ℕ → List ℕ → List (Segment T) → Type 0
AreCopies at n [] [] = Unit {0}
AreCopies at n [] (s ∷ ss) = ⊥
AreCopies at n (k ∷ ks) [] = ⊥
AreCopies at n (k ∷ ks) (s ∷ ss) =
    (s.slots.items ≡ renumbered n (slots_of (at k))) × (s.note ≡ None) × AreCopies at (n + length (slots_of (at k))) ks ss

-- from trie `old` to trie `new`, the cells of the branch at `index` are replaced by new cells with
-- the same steps; other branches keep their cells, and the remaining segments keep their notes
pub record IsDetached {T : Type 0} (old new : TrieOf T) (index : ℕ) : Type 0 where
  pub branches : (forest new).branches ≡ only_in index (renumbered old.made) (forest old).branches
  pub made : new.made ≡ old.made + length (slots_in (forest old).branches index)
  pub limits : new.limits ≡ old.limits
  pub notes : KeepsAllNotes old new
  pub cut : IsCut new
