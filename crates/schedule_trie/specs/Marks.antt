-- Marks of segments: each gives the first branch that has its segment.
use Rattle.std.specs.Prelude.{ℕ, ◌≡◌, ◌<◌, ◌+◌, true, false, List, ◌++◌, Option, Some, None, IfSome, IsSome, length, slice_index_or}
use Rattle.schedule_trie.specs.declared.mark.Mark.{Mark}
use Rattle.schedule_trie.specs.Trie.{TrieOf, SegmentOf, KeyedBranch, segment_at, keys_in, line, has}
use Rattle.schedule_trie.specs.Climbs.{last_of, keys_up_to}

-- the mark with these two numbers: the index of a branch, and a number of that branch's cells
abbrev pub mark : ℕ → ℕ → Mark
mark branch cells = record { branch = branch; cells = cells }

-- the mark at a key; None if the key isn't marked
abbrev pub mark_at : List (Option Mark) → ℕ → Option Mark
mark_at marks k = slice_index_or marks k None

-- the list of marks is long enough to have a mark at the key of each segment
abbrev pub CoversSegments : {T : Type 0} → TrieOf T → List (Option Mark) → Type 0
CoversSegments c marks = (k : ℕ) → IsSome (segment_at c.segments k) → k < length marks

-- m is the mark at the given key; if no key is given, m has branch 0 and 0 cells
abbrev pub IsMarkOf : List (Option Mark) → Option ℕ → Mark → Type 0
IsMarkOf marks None m = m ≡ mark 0 0
IsMarkOf marks (Some k) m = mark_at marks k ≡ Some m

-- `own` are the keys of a path after its last marked key, and `stem` is that key's mark. If no key
-- of the path is marked, `own` are all its keys, and `stem` has branch 0 and 0 cells.
pub record IsOwnPart (marks : List (Option Mark)) (keys : List ℕ) (stem : Mark) (own : List ℕ) : Type 0 where
  pub front : List ℕ
  pub is : keys ≡ front ++ own
  pub marked : IsMarkOf marks (last_of front) stem
  pub unmarked : (k : ℕ) → has k own ≡ true → mark_at marks k ≡ None

-- `new` is `old` after these consecutive keys of a branch are marked. The mark of a key has the
-- branch, and how many cells the branch has down to the end of the key's segment; `cells` is how
-- many cells the branch has above the first of these keys. No other mark changes.
pub record AreMarked {T : Type 0} (at : ℕ → Option (SegmentOf T)) (old new : List (Option Mark)) (keys : List ℕ) (branch cells : ℕ) : Type 0 where
  pub count : length new ≡ length old
  pub marked : (k : ℕ) → has k keys ≡ true → mark_at new k ≡ Some (mark branch (cells + length (line at (keys_up_to k keys))))
  pub others : (k : ℕ) → has k keys ≡ false → mark_at new k ≡ mark_at old k

-- m is the right mark of the segment at `key`: it gives the first branch that has the segment (one
-- of the first `count` branches), and the number of that branch's cells down to the segment's end
pub record IsMark {T : Type 0} (at : ℕ → Option (SegmentOf T)) (branches : List KeyedBranch) (count key : ℕ) (m : Mark) : Type 0 where
  pub within : m.branch < count
  pub has_it : has key (keys_in branches m.branch) ≡ true
  pub first : (j : ℕ) → j < m.branch → has key (keys_in branches j) ≡ false
  pub cells : m.cells ≡ length (line at (keys_up_to key (keys_in branches m.branch)))

-- each segment of the first `count` branches has its right mark (`IsMark`), no other segment is
-- marked, and the list is long enough for the mark of each segment
pub record MarksFirst {T : Type 0} (trie : TrieOf T) (count : ℕ) (marks : List (Option Mark)) : Type 0 where
  pub places : CoversSegments trie marks
  pub right : (k : ℕ) → IfSome (mark_at marks k) (IsMark (segment_at trie.segments) trie.branches count k)
  pub none : (j k : ℕ) → mark_at marks k ≡ None → j < count → has k (keys_in trie.branches j) ≡ false
