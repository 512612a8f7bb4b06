-- A trie: a forest, cut into segments that branches share.
pub use Rattle.lineage.specs.Family.{has, above_key, divided_keys, other_key, keys_without}
use Rattle.std.specs.Prelude.{ℕ, zero, suc, ◌≡◌, ◌<◌, ◌≤◌, ◌+◌, ◌⊎◌, Bool, true, false, nat_eq, List, [], ◌∷◌, ◌++◌, Option, Some, None, IsSome, IfSome, length, map, slice_get, slice_index_or, if◌then◌else◌}
use Rattle.std.specs.Option.{option_map}
use Rattle.schedule_steps.specs.declared.types.Step.{Step}
use Rattle.branch_terms.specs.declared.slot.Slot.{Slot}
use Rattle.branch_terms.specs.declared.refusal.Refusal.{Refusal}
use Rattle.branch_terms.specs.declared.refusal.Refusal.TheVariants.{NoBranch, Memory}
use Rattle.branch_terms.specs.declared.limits.Limits.{Limits}
use Rattle.branch_terms.specs.Forest.{Forest, Branch, branch, cell_of, cell_on_branch, len_of, index_of, slot, slots_in, replaced, without, everywhere, only_in, put_last, put_all, numbered, put_before, inserted}
use Rattle.branch_terms.specs.declared.limits.TheConstants.{MOST_CELLS_MADE}

-- a segment: its cells in order, and its note, if it has one
pub record SegmentOf (T : Type 0) : Type 0 where
  pub slots : List Slot
  pub note : Option T

-- a branch: its name, and the keys of its segments in order
pub record KeyedBranch : Type 0 where
  pub name : List ℕ
  pub keys : List ℕ

-- a forest cut into segments: its branches in the order they were made, the segment at each key
-- (None if no segment has the key), the number of cells ever made, and the limits
pub record TrieOf (T : Type 0) : Type 0 where
  pub branches : List KeyedBranch
  pub segments : List (Option (SegmentOf T))
  pub made : ℕ
  pub limits : Limits

-- the branch with this name and these keys
abbrev pub keyed_branch : List ℕ → List ℕ → KeyedBranch
keyed_branch name keys = record { name = name; keys = keys }

-- the keys of the segments of the branch at an index; no keys if there is no such branch
abbrev pub keys_in : List KeyedBranch → ℕ → List ℕ
keys_in [] i = []
keys_in (first ∷ rest) zero = first.keys
keys_in (first ∷ rest) (suc i) = keys_in rest i

-- these branches, except that the branch at an index has the given keys
abbrev pub set_keys : List KeyedBranch → ℕ → List ℕ → List KeyedBranch
set_keys [] i keys = []
set_keys (first ∷ rest) zero keys = keyed_branch first.name keys ∷ rest
set_keys (first ∷ rest) (suc i) keys = first ∷ set_keys rest i keys

module _ {T : Type 0} where
  -- the segment with these cells and this note
  abbrev pub segment : List Slot → Option T → SegmentOf T
  segment slots note = record { slots = slots; note = note }

  -- the segment at a key; None if no segment has the key
  abbrev pub segment_at : List (Option (SegmentOf T)) → ℕ → Option (SegmentOf T)
  segment_at segments k = slice_index_or segments k None

  -- the cells of a segment; no cells if there is no segment
  abbrev pub slots_of : Option (SegmentOf T) → List Slot
  slots_of None = []
  slots_of (Some this) = this.slots

  -- the cells of the segments at these keys, one segment after the other
  abbrev pub line : (ℕ → Option (SegmentOf T)) → List ℕ → List Slot
  line at [] = []
  line at (k ∷ ks) = slots_of (at k) ++ line at ks

  -- a branch with its cells, which are those of the segments at its keys
  abbrev pub branch_on : (ℕ → Option (SegmentOf T)) → KeyedBranch → Branch
  branch_on at keyed = branch keyed.name (line at keyed.keys)

  -- these branches with their cells, which are those of the segments at their keys
  abbrev pub branches_on : (ℕ → Option (SegmentOf T)) → List KeyedBranch → List Branch
  branches_on at branches = map (branch_on at) branches

  -- the forest that a trie cuts into segments: all branches with their cells, and the number of
  -- cells ever made
  abbrev pub forest : TrieOf T → Forest
  forest trie = record { branches = branches_on (segment_at trie.segments) trie.branches; made = trie.made }

-- no number is twice in the list
abbrev pub Once : List ℕ → Type 0
Once [] = Unit {0}
Once (x ∷ xs) = (has x xs ≡ false) × Once xs

-- whether one of these cells has the number x
abbrev pub has_cell : ℕ → List Slot → Bool
has_cell x slots = has x (map cell_of slots)

-- for each key of a list, `above` gives the key right before it in the list; for the first key it
-- gives `up`
abbrev pub Linked : (ℕ → Option ℕ) → Option ℕ → List ℕ → Type 0
Linked above up [] = Unit {0}
Linked above up (k ∷ ks) = (above k ≡ up) × Linked above (Some k) ks

-- the key right above a segment is the same on each branch that has the segment; so branches that
-- share a segment share all segments above it
pub record SharesAbove (branches : List KeyedBranch) : Type 0 where
  pub above : ℕ → Option ℕ
  pub linked : (i : ℕ) → Linked above None (keys_in branches i)

-- a segment has 1 to 128 cells, no two cells have the same number, and each number is below `made`
pub record IsSegment {T : Type 0} (made : ℕ) (this : SegmentOf T) : Type 0 where
  pub some : 0 < length this.slots
  pub few : length this.slots ≤ 128
  pub once : Once (map cell_of this.slots)
  pub given : (x : ℕ) → has_cell x this.slots ≡ true → x < made

-- a correct trie: there is a segment at each key of a branch, and each segment is on a branch; a
-- segment has 1 to 128 cells, with numbers below `made`; no cell is twice in the segments; and
-- branches that share a segment share all segments above it
pub record IsSoundTrie {T : Type 0} (at : ℕ → Option (SegmentOf T)) (branches : List KeyedBranch) (made : ℕ) : Type 0 where
  pub held : (i k : ℕ) → has k (keys_in branches i) ≡ true → IsSome (at k)
  pub segments : (k : ℕ) → IfSome (at k) (IsSegment made)
  pub apart : (j k x : ℕ) → has_cell x (slots_of (at j)) ≡ true → has_cell x (slots_of (at k)) ≡ true → j ≡ k
  pub live : (k : ℕ) → IsSome (at k) → (i : ℕ) × (has k (keys_in branches i) ≡ true)
  pub shares : SharesAbove branches

-- `made`, the number of cells ever made, is at most the limit of cells; the number of branches is 1
-- to the limit of branches; and these limits are at most 2^28 cells and 1,024 branches
pub record IsWithin (limits : Limits) (made branches : ℕ) : Type 0 where
  pub cells : made ≤ limits.cells
  pub branches_fit : branches ≤ limits.branches
  pub some : 0 < branches
  pub most_cells : limits.cells ≤ MOST_CELLS_MADE
  pub most_branches : limits.branches ≤ 1024

-- a correct trie (each segment has 1 to 128 cells, which no other segment has, and is on a branch;
-- branches that share a segment share all segments above it), with at least one branch, and within
-- its limits of cells and branches
pub record IsWhole {T : Type 0} (trie : TrieOf T) : Type 0 where
  pub sound : IsSoundTrie (segment_at trie.segments) trie.branches trie.made
  pub within : IsWithin trie.limits trie.made (length trie.branches)

-- the limits are in their ranges: 1 to 2^28 cells, 1 to 1,024 branches, and 1 to 2^20 logged
-- commands
pub record AreLimits (limits : Limits) : Type 0 where
  pub some_cells : 0 < limits.cells
  pub most_cells : limits.cells ≤ MOST_CELLS_MADE
  pub some_branches : 0 < limits.branches
  pub most_branches : limits.branches ≤ 1024
  pub some_log : 0 < limits.log
  pub most_log : limits.log ≤ 1048576

-- `spot` is a key of a path and an offset in the key's segment, and the cell at this offset is the
-- cell at `place` of the path
pub record SpotHasCellAt {T : Type 0} (at : ℕ → Option (SegmentOf T)) (keys : List ℕ) (place : ℕ) (spot : ℕ × ℕ) : Type 0 where
  pub member : has spot.0 keys ≡ true
  pub within : spot.1 < length (slots_of (at spot.0))
  pub same : slice_get (slots_of (at spot.0)) spot.1 ≡ slice_get (line at keys) place

-- `spot` is a key of a path and an offset in the key's segment, and this offset plus the number of
-- cells in the path's earlier segments is `place`
pub record SpotIsAt {T : Type 0} (at : ℕ → Option (SegmentOf T)) (keys : List ℕ) (place : ℕ) (spot : ℕ × ℕ) : Type 0 where
  pub front : List ℕ
  pub back : List ℕ
  pub is : keys ≡ front ++ spot.0 ∷ back
  pub first : has spot.0 front ≡ false
  pub before : length (line at front) + spot.1 ≡ place
  pub within : spot.1 < length (slots_of (at spot.0))

-- how a forest is cut into segments: there is a segment at each key of a branch, each segment has 1
-- to 128 cells and is on a branch, and branches that share a segment share all segments above it
pub record IsCut {T : Type 0} (trie : TrieOf T) : Type 0 where
  pub held : (i k : ℕ) → has k (keys_in trie.branches i) ≡ true → IsSome (segment_at trie.segments k)
  pub sizes : (k : ℕ) → IfSome (segment_at trie.segments k) (λ this. (0 < length this.slots) × (length this.slots ≤ 128))
  pub live : (k : ℕ) → IsSome (segment_at trie.segments k) → (i : ℕ) × (has k (keys_in trie.branches i) ≡ true)
  pub shares : SharesAbove trie.branches

-- the note of a segment; None if there is no segment, or if it has no note
abbrev pub note_of : {T : Type 0} → Option (SegmentOf T) → Option T
note_of None = None
note_of (Some this) = this.note

-- no segment has a note
abbrev pub IsBlank : {T : Type 0} → TrieOf T → Type 0
IsBlank trie = (k : ℕ) → note_of (segment_at trie.segments k) ≡ None

-- the cells of a segment; None if there is no segment
abbrev pub slots_if_some : {T : Type 0} → Option (SegmentOf T) → Option (List Slot)
slots_if_some o = option_map (λ this. this.slots) o

-- from trie `old` to trie `new`, each segment whose cells don't change keeps its note
abbrev pub KeepsUnchanged : {T : Type 0} → TrieOf T → TrieOf T → Type 0
KeepsUnchanged old new =
    (k : ℕ) → slots_if_some (segment_at new.segments k) ≡ slots_if_some (segment_at old.segments k) → segment_at new.segments k ≡ segment_at old.segments k

-- the segment at `key` has other cells in trie `new` than it had in trie `old`
abbrev pub HasChanged : {T : Type 0} → TrieOf T → TrieOf T → ℕ → Type 0
HasChanged old new key = slots_of (segment_at new.segments key) ≡ slots_of (segment_at old.segments key) → ⊥

-- none of these cells is on a branch of trie `new`
abbrev pub AreGone : {T : Type 0} → TrieOf T → List Slot → Type 0
AreGone new slots = (i x : ℕ) → has_cell x slots ≡ true → has_cell x (slots_in (forest new).branches i) ≡ false

-- From trie `old` to trie `new`, at most one segment of `old` is touched (its cells may change),
-- and it has no note in `new`. Each other segment of `old` keeps its cells and its note; or it is
-- gone, and none of its cells is on a branch of `new`. Segments that are only in `new` have no
-- note.
pub record KeepsNotes {T : Type 0} (old new : TrieOf T) : Type 0 where
  pub touched : Option ℕ
  pub kept : (k : ℕ) → (touched ≡ Some k → ⊥) → IsSome (segment_at old.segments k)
      → (segment_at new.segments k ≡ segment_at old.segments k) ⊎ ((segment_at new.segments k ≡ None) × AreGone new (slots_of (segment_at old.segments k)))
  pub cleared : (k : ℕ) → touched ≡ Some k → note_of (segment_at new.segments k) ≡ None
  pub fresh : (k : ℕ) → segment_at old.segments k ≡ None → note_of (segment_at new.segments k) ≡ None

-- from trie `old` to trie `new`, notes are kept as `KeepsNotes` says, which lets one segment be
-- touched and lose its note; each segment that satisfies `Must` is touched, and a touched segment
-- satisfies `May`
pub record KeepsNotesBut {T : Type 0} (old new : TrieOf T) (Must May : ℕ → Type 0) : Type 0 where
  pub notes : KeepsNotes old new
  pub each : (k : ℕ) → Must k → notes.touched ≡ Some k
  pub only : (k : ℕ) → notes.touched ≡ Some k → May k

-- from trie `old` to trie `new`, notes are kept as `KeepsNotes` says, which lets one segment be
-- touched and lose its note; a segment is touched exactly if it satisfies `Is`
abbrev pub KeepsNotesExcept : {T : Type 0} → TrieOf T → TrieOf T → (ℕ → Type 0) → Type 0
KeepsNotesExcept old new Is = KeepsNotesBut old new Is Is

-- the condition that no segment satisfies
abbrev pub Nowhere : ℕ → Type 0
Nowhere k = ⊥

-- the segment at `key` has the cell that is at `place` of the branch with this name
pub record HoldsCellAt {T : Type 0} (trie : TrieOf T) (name : List ℕ) (place key : ℕ) : Type 0 where
  pub cell : ℕ
  pub there : cell_on_branch (forest trie) name place ≡ Some cell
  pub held : has_cell cell (slots_of (segment_at trie.segments key)) ≡ true

-- the segment at `key` has the cell that is right before `place` of the branch with this name
pub record HoldsCellBefore {T : Type 0} (trie : TrieOf T) (name : List ℕ) (place key : ℕ) : Type 0 where
  pub before : ℕ
  pub next : before + 1 ≡ place
  pub holds : HoldsCellAt trie name before key

-- the segment at `key` has the cell at `place` of the branch with this name, and also the cell
-- right before it; so a fork at `place` cuts the segment
pub record IsParted {T : Type 0} (trie : TrieOf T) (name : List ℕ) (place key : ℕ) : Type 0 where
  pub above : HoldsCellBefore trie name place key
  pub below : HoldsCellAt trie name place key

-- from trie `old` to trie `new`, the segment at `key` gets a new cell with this step after its
-- other cells, which stay as they were
abbrev pub IsExtended : {T : Type 0} → TrieOf T → TrieOf T → Step → ℕ → Type 0
IsExtended old new step key = slots_of (segment_at new.segments key) ≡ slots_of (segment_at old.segments key) ++ slot old.made step ∷ []

-- From trie `old` to trie `new`, an insert of this step at `place` of the branch with this name may
-- touch the segment at `key`. Either the segment has the cell at `place`; or `place` is the
-- branch's length, the segment has the branch's last cell, and it gets the new cell after its other
-- cells, which stay as they were.
abbrev pub MayTouchAt : {T : Type 0} → TrieOf T → TrieOf T → List ℕ → ℕ → Step → ℕ → Type 0
MayTouchAt old new name place step key =
    HoldsCellAt old name place key ⊎ ((len_of (forest old) name ≡ Some place) × (HoldsCellBefore old name place key × IsExtended old new step key))

-- from trie `old` to trie `new`, each segment of `old` keeps its cells and its note; or it is gone,
-- and none of its cells is on a branch of `new`. Segments that are only in `new` have no note
abbrev pub KeepsAllNotes : {T : Type 0} → TrieOf T → TrieOf T → Type 0
KeepsAllNotes old new = (notes : KeepsNotes old new) × (notes.touched ≡ None)

-- from trie `old` to trie `new`, the cell at `offset` of the segment at `key` gets the step `step`,
-- in each branch that has the cell; this segment has no note in `new`, and the others keep theirs
pub record IsStepSet {T : Type 0} (old new : TrieOf T) (key offset : ℕ) (step : Step) : Type 0 where
  pub everywhere_set : (s : Slot) → slice_get (slots_of (segment_at old.segments key)) offset ≡ Some s
      → (forest new).branches ≡ everywhere (replaced s.cell step) (forest old).branches
  pub made : new.made ≡ old.made
  pub limits : new.limits ≡ old.limits
  pub notes : KeepsNotesExcept old new (λ k. k ≡ key)
  pub cut : IsCut new

-- from trie `old` to trie `new`, the cell at `offset` of the segment at `key` is removed from each
-- branch; this segment has no note in `new`, and the others keep theirs
pub record IsRemoved {T : Type 0} (old new : TrieOf T) (key offset : ℕ) : Type 0 where
  pub everywhere_gone : (s : Slot) → slice_get (slots_of (segment_at old.segments key)) offset ≡ Some s
      → (forest new).branches ≡ everywhere (without s.cell) (forest old).branches
  pub made : new.made ≡ old.made
  pub limits : new.limits ≡ old.limits
  pub notes : KeepsNotesExcept old new (λ k. k ≡ key)
  pub cut : IsCut new

-- no branch has the segment at `key`, except perhaps the branch at `index`
abbrev pub LackedByOthers : List KeyedBranch → ℕ → ℕ → Type 0
LackedByOthers branches index key = (j : ℕ) → (j ≡ index → ⊥) → has key (keys_in branches j) ≡ false

-- the segment at `key` is the last of the branch at `index`, no other branch has it, and it has
-- fewer than 128 cells
pub record IsOwnEnd {T : Type 0} (trie : TrieOf T) (index key : ℕ) : Type 0 where
  pub front : List ℕ
  pub last : keys_in trie.branches index ≡ front ++ key ∷ []
  pub own : LackedByOthers trie.branches index key
  pub room : length (slots_of (segment_at trie.segments key)) < 128

-- the segment at `key` is the last of the branch at `index`, and it has cells
pub record IsEnd {T : Type 0} (trie : TrieOf T) (index key : ℕ) : Type 0 where
  pub front : List ℕ
  pub last : keys_in trie.branches index ≡ front ++ key ∷ []
  pub some : 0 < length (slots_of (segment_at trie.segments key))

-- the segment at `key` is the last of the branch at `index` in trie `old`, and gets a new cell with
-- this step in trie `new`, after its other cells, which stay as they were
abbrev pub IsExtendedEnd : {T : Type 0} → TrieOf T → TrieOf T → ℕ → Step → ℕ → Type 0
IsExtendedEnd old new index step key = IsEnd old index key × IsExtended old new step key

-- from trie `old` to trie `new`, a new cell with this step is added at the end of the branch at
-- `index`, in that branch alone; only the segment that was this branch's last may lose its note,
-- and only if it gets the new cell
pub record IsPushed {T : Type 0} (old new : TrieOf T) (index : ℕ) (step : Step) : Type 0 where
  pub branches : (forest new).branches ≡ only_in index (put_last (slot old.made step)) (forest old).branches
  pub made : new.made ≡ old.made + 1
  pub count : length new.branches ≡ length old.branches
  pub limits : new.limits ≡ old.limits
  pub notes : KeepsNotesBut old new Nowhere (IsExtendedEnd old new index step)
  pub cut : IsCut new

-- from trie `old` to trie `new`, new cells with these steps are added at the end of the branch at
-- `index`, in that branch alone; if `old` has no note, `new` has none; if `old` is cut as `IsCut`
-- says, so is `new`
pub record ArePushed {T : Type 0} (old new : TrieOf T) (index : ℕ) (steps : List Step) : Type 0 where
  pub branches : (forest new).branches ≡ only_in index (put_all (numbered old.made steps)) (forest old).branches
  pub made : new.made ≡ old.made + length steps
  pub count : length new.branches ≡ length old.branches
  pub limits : new.limits ≡ old.limits
  pub blank : IsBlank old → IsBlank new
  pub cut : IsCut old → IsCut new

-- from trie `old` to trie `new`, a new cell with this step is inserted before the cell at `offset`
-- of the segment at `key`, in each branch that has that cell; the cells at `key` change, and this
-- segment alone loses its note
pub record IsPutBefore {T : Type 0} (old new : TrieOf T) (key offset : ℕ) (step : Step) : Type 0 where
  pub everywhere_put : (s : Slot) → slice_get (slots_of (segment_at old.segments key)) offset ≡ Some s
      → (forest new).branches ≡ everywhere (put_before s.cell (slot old.made step)) (forest old).branches
  pub made : new.made ≡ old.made + 1
  pub limits : new.limits ≡ old.limits
  pub notes : KeepsNotesExcept old new (λ k. k ≡ key)
  pub changed : HasChanged old new key
  pub cut : IsCut new

-- from trie `old` to trie `new`, a new cell with this step is inserted at `place` of the branch at
-- `index`. The segment with the cell at `place` loses its note. If `place` is the branch's length,
-- the segment with the last cell may lose its note, but only if it gets the new cell. Other
-- segments keep their notes.
pub record IsInserted {T : Type 0} (old new : TrieOf T) (index place : ℕ) (step : Step) : Type 0 where
  pub forest_is : forest new ≡ inserted (forest old) index place step
  pub limits : new.limits ≡ old.limits
  pub notes : (name : List ℕ) → index_of (forest old).branches name ≡ Some index → KeepsNotesBut old new (HoldsCellAt old name place) (MayTouchAt old new name place step)
  pub unchanged : KeepsUnchanged old new
  pub cut : IsCut new

-- the keys of the segments of the branch at the given index; None if no index is given
abbrev pub keys_by : Option ℕ → List KeyedBranch → Option (List ℕ)
keys_by None branches = None
keys_by (Some i) branches = Some (keys_in branches i)

-- why a query is refused, given the result that it should have: NoBranch if this result is None (no
-- branch has the name), else Memory
abbrev pub query_refusal : {X : Type 0} → Option X → Refusal
query_refusal None = NoBranch
query_refusal (Some x) = Memory

-- a segment with the given note instead of its own, or with no note if None is given
abbrev pub with_note : {T : Type 0} → Option T → SegmentOf T → SegmentOf T
with_note note this = segment this.slots note

-- from trie `old` to trie `new`, the segment at `key`, if there is one, gets this note, or has none
-- if `note` is None; nothing else changes
pub record IsNoted {T : Type 0} (old new : TrieOf T) (key : ℕ) (note : Option T) : Type 0 where
  pub here : segment_at new.segments key ≡ option_map (with_note note) (segment_at old.segments key)
  pub others : (j : ℕ) → (j ≡ key → ⊥) → segment_at new.segments j ≡ segment_at old.segments j
  pub branches : new.branches ≡ old.branches
  pub limits : new.limits ≡ old.limits
  pub unchanged : forest new ≡ forest old

-- the key right before `key` in a path; `up` if `key` is the first; None if the path lacks `key`
abbrev pub before_key : ℕ → Option ℕ → List ℕ → Option ℕ
before_key key up [] = None
before_key key up (k ∷ ks) = if nat_eq key k then up else before_key key (Some k) ks

-- the key right above `key` on the first branch that has `key`; None if `key` is the first key of
-- that branch, or if no branch has it
abbrev pub above_of : List KeyedBranch → ℕ → Option ℕ
above_of [] key = None
above_of (first ∷ rest) key = if has key first.keys then before_key key None first.keys else above_of rest key

-- a branch in which the key `new` is put right above `key`; the same branch if it lacks `key`
abbrev pub divided_branch : ℕ → ℕ → KeyedBranch → KeyedBranch
divided_branch key new keyed = keyed_branch keyed.name (divided_keys key new keyed.keys)

-- a branch without `key`
abbrev pub branch_without : ℕ → KeyedBranch → KeyedBranch
branch_without key keyed = keyed_branch keyed.name (keys_without key keyed.keys)
