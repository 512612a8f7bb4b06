-- A trie's fields, read as its model: a forest that is cut into segments.
use Rattle.std.specs.Prelude.{ℕ, ◌≡◌, true, List, [], ◌∷◌, Option, Some, None, IfSome, length, map, slice_get}
use Rattle.std.specs.List.{list_all}
use Rattle.std.specs.Map.{keys_of}
use Rattle.schedule_trie.specs.declared.segment.Segment.{Segment}
use Rattle.schedule_trie.specs.declared.trie.Trie.TheInside.{Inside}
use Rattle.branch_terms.specs.Forest.{Branch, slots_in}
use Rattle.schedule_trie.specs.Trie.{TrieOf, SegmentOf, KeyedBranch, segment, keyed_branch, forest, IsWhole}
use Rattle.branch_terms.specs.Limbs.{is_name}
use Rattle.schedule_trie.specs.NamedLengths.{cached_in}

module _ {T : Type 0} where
  -- a stored segment as a segment of the trie; None if none is stored
  abbrev pub segment_of : Option (Segment T) → Option (SegmentOf T)
  segment_of None = None
  segment_of (Some s) = Some (segment s.slots.items s.note)

  -- the stored segments, key by key, as segments of the trie
  abbrev pub segments_of : List (Option (Segment T)) → List (Option (SegmentOf T))
  segments_of items = map segment_of items

-- the branches with these names and, in the same order, these lists of keys; a branch for which no
-- list is left has no keys
abbrev pub keyed_branches : List (List ℕ) → List (List ℕ) → List KeyedBranch
keyed_branches [] paths = []
keyed_branches (n ∷ ns) [] = keyed_branch n [] ∷ keyed_branches ns []
keyed_branches (n ∷ ns) (p ∷ ps) = keyed_branch n p ∷ keyed_branches ns ps

-- each cached length is the number of cells of the branch at the same index
abbrev pub AreLengths : List (List ℕ × Option ℕ) → List Branch → Type 0
AreLengths entries branches = (i : ℕ) → IfSome (cached_in (slice_get entries i)) (λ n. n ≡ length (slots_in branches i))

-- each name is a lower-case letter, then at most 15 lower-case letters or digits
abbrev pub AreNames : List (List ℕ) → Type 0
AreNames names = list_all is_name names ≡ true

module _ {T : Type 0} where
  -- the names of a trie's branches, in order
  abbrev pub names_of : Inside T → List (List ℕ)
  names_of t = keys_of t.branches.entries

  -- a trie from its fields: its branches and segments, the number of cells ever made, the limits
  abbrev pub trie_of : Inside T → TrieOf T
  trie_of t = record { branches = keyed_branches (names_of t) t.segments.paths; segments = segments_of t.segments.items; made = t.made; limits = t.limits }

  -- the trie is correct and within its limits (`IsWhole`), and has one path for each branch
  pub record IsWholeWithPaths (t : Inside T) : Type 0 where
    pub whole : IsWhole (trie_of t)
    pub paths : length t.segments.paths ≡ length (names_of t)

  -- the invariant of a trie: it is correct and within its limits, with one path for each branch
  -- (`IsWholeWithPaths`); cached lengths are right; and each name has the form of a branch's name
  pub record IsTrie (t : Inside T) : Type 0 where
    pub held : IsWholeWithPaths t
    pub lengths : AreLengths t.branches.entries (forest (trie_of t)).branches
    pub names : AreNames (names_of t)
