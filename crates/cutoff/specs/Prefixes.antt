-- Stored runs that fit the segments of a branch, from its first one on. A run is true if its steps
-- fit the register, and replay of them from its entry gives its exit and its events (`IsTrueRun`).
use Rattle.std.specs.Prelude.{ℕ, ◌≡◌, ◌⊎◌, ◌<◌, ◌≤◌, ◌+◌, Bool, true, List, [], ◌∷◌, ◌++◌, Option, Some, None, length, map}
use Rattle.std.specs.Option.{option_map}
use Rattle.frames.specs.Behaviour.{Behaviour}
use Rattle.frames.specs.Configuration.{Configuration, replayed}
use Rattle.frames.specs.Equality.{SameConfiguration}
use Rattle.frames.specs.Recorded.{AllFit}
use Rattle.checkpoints.specs.Runs.{SegmentRun, IsTrueRun}
use Rattle.schedule_trie.specs.Forest.{step_of}
use Rattle.schedule_trie.specs.Trie.{TrieOf, segment_at, slots_of, note_of, keys_in, has, line}
use Rattle.schedule_trie.specs.Climbs.{keys_to, keys_up_to, last_of, HasClimbedTo}
use Rattle.cutoff.specs.Fitting.{StoredRun, bare_run, RunFits, steps_at}
use Rattle.cutoff.specs.Links.{run_checked}

-- what is stored at a key; `None` if there is no key or no run
abbrev pub note_if_any : {R P : Type 0} → TrieOf (StoredRun R P) → Option ℕ → Option (StoredRun R P)
note_if_any trie None = None
note_if_any trie (Some k) = note_of (segment_at trie.segments k)

-- the run stored at a key; `None` if there is no key or no run
abbrev pub run_if_any : {R P : Type 0} → TrieOf (StoredRun R P) → Option ℕ → Option (SegmentRun R P)
run_if_any trie key = option_map bare_run (note_if_any trie key)

-- the exit of a run, or c if there is no run
abbrev pub exit_or : {R P : Type 0} → Configuration R P → Option (SegmentRun R P) → Configuration R P
exit_or c None = c
exit_or c (Some run) = run.exit

-- the exit of the run stored at a key, or `start` if there is no key or no run
abbrev pub exit_or_start : {R P : Type 0} → TrieOf (StoredRun R P) → Configuration R P → Option ℕ → Configuration R P
exit_or_start trie start key = exit_or start (run_if_any trie key)

module _ {R P : Type 0} (E : R → R → Bool) (is : R → Behaviour P) (trie : TrieOf (StoredRun R P)) where
  -- the segment k, which begins at c, has a stored run that fits it; the run is true, for the
  -- register of its entry
  pub record HasTrueRun (c : Configuration R P) (k : ℕ) : Type 0 where
    pub stored : StoredRun R P
    pub noted : note_of (segment_at trie.segments k) ≡ Some stored
    pub true_run : IsTrueRun (is stored.run.entry.register) stored.run
    pub fits : RunFits E c (steps_at trie k) stored.run

  -- true runs that fit are stored in all these segments, of which the first begins at c, and replay
  -- of them reaches `end`
  abbrev pub RunsDown : Behaviour P → Configuration R P → List ℕ → Configuration R P → Type 0
  RunsDown b c [] end = SameConfiguration E end c
  RunsDown b c (k ∷ ks) end = HasTrueRun c k × RunsDown b (replayed b c (steps_at trie k)) ks end

  -- true runs are stored in all these segments: the first fits at c, and each other one at the exit
  -- of the run right above it
  abbrev pub RunsHang : Configuration R P → List ℕ → Type 0
  RunsHang c [] = Unit {0}
  RunsHang c (k ∷ ks) = (here : HasTrueRun c k) × RunsHang here.stored.run.exit ks

  module _ (start : Configuration R P) where
    -- true runs that fit are stored at these keys, from the first down to `last`, and replay
    -- reaches the exit of the run stored at `last`; if `last` is `None`, no run is needed
    abbrev pub RunsTo : Option ℕ → List ℕ → Type 0
    RunsTo last keys = RunsDown (is start.register) start (keys_to keys last) (exit_or_start trie start last)

    -- on all branches with the segment k, true runs that fit are stored from the first segment down
    -- to k; if the key is `None`, nothing is required
    abbrev pub RunsToOnAll : Option ℕ → Type 0
    RunsToOnAll None = Unit {0}
    RunsToOnAll (Some k) = (i : ℕ) → has k (keys_in trie.branches i) ≡ true → RunsTo (Some k) (keys_in trie.branches i)

    -- `RunsToOnAll` holds of each segment whose run was last found to fit with the number `first` or
    -- a greater one; if `first` is `None`, nothing is required
    abbrev pub AreFresh : Option ℕ → Type 0
    AreFresh None = Unit {0}
    AreFresh (Some first) = (k a : ℕ) → run_checked (note_of (segment_at trie.segments k)) ≡ Some a → first ≤ a → RunsToOnAll (Some k)

    -- on each branch with the key k, true runs that fit are stored at all keys above k, and lead to
    -- the entry of `run`
    abbrev pub RunsLeadTo : ℕ → SegmentRun R P → Type 0
    RunsLeadTo k run =
        (i : ℕ) → has k (keys_in trie.branches i) ≡ true
        → (above : List ℕ) × (keys_up_to k (keys_in trie.branches i) ≡ above ++ k ∷ []) × RunsDown (is start.register) start above run.entry

    -- on each branch with `key`, `fitted` is one of the branch's keys, and true runs that fit are
    -- stored from the first down to it; if `fitted` is `None`, nothing is required
    abbrev pub RunsToOnAllWith : ℕ → Option ℕ → Type 0
    RunsToOnAllWith key fitted = (i : ℕ) → has key (keys_in trie.branches i) ≡ true → HasClimbedTo (keys_in trie.branches i) fitted × RunsTo fitted (keys_in trie.branches i)

-- a climb from `last` ended at `up`, which is `stop` or `None`: on each branch with the key `last`,
-- `left` are the keys below `up` down to `last`, followed by `below`
abbrev pub AreKeysAfter : {T : Type 0} → TrieOf T → Option ℕ → List ℕ → Option ℕ → Option ℕ → List ℕ → Type 0
AreKeysAfter trie last below stop up left =
    ((up ≡ stop) ⊎ (up ≡ None))
    × ((i : ℕ) → HasClimbedTo (keys_in trie.branches i) last → HasClimbedTo (keys_in trie.branches i) up × (keys_to (keys_in trie.branches i) last ++ below ≡ keys_to (keys_in trie.branches i) up ++ left))

-- on each branch with `key`, `above` is the key right above it, or `None` if `key` is the first
abbrev pub IsAbove : {T : Type 0} → TrieOf T → ℕ → Option ℕ → Type 0
IsAbove trie key above = (i : ℕ) (front back : List ℕ) → keys_in trie.branches i ≡ front ++ key ∷ back → above ≡ last_of front

-- `stored` is what is stored at `key`, and `above` is the key right above it, or `None` if there is
-- none
pub record IsTop {R P : Type 0} (trie : TrieOf (StoredRun R P)) (key : ℕ) (stored : Option (StoredRun R P)) (above : Option ℕ) : Type 0 where
  pub noted : stored ≡ note_of (segment_at trie.segments key)
  pub each : IsAbove trie key above

-- `key` is the last of these keys; `place` is `count` plus the number of cells of all segments
-- before `key`
pub record EndsIn {T : Type 0} (trie : TrieOf T) (key count place : ℕ) (keys : List ℕ) : Type 0 where
  pub front : List ℕ
  pub is : keys ≡ front ++ key ∷ []
  pub sum : length (line (segment_at trie.segments) front) + count ≡ place

-- the first `place` cells of branch i end with the first `count` cells, at least one, of the
-- segment `key`
pub record IsPlaceIn {T : Type 0} (trie : TrieOf T) (key count place i : ℕ) : Type 0 where
  pub there : has key (keys_in trie.branches i) ≡ true
  pub ends : EndsIn trie key count place (keys_up_to key (keys_in trie.branches i))
  pub positive : 0 < count
  pub within : count ≤ length (slots_of (segment_at trie.segments key))

-- on branch i, true runs that fit are stored from the first segment down to `fitted`, and `left`
-- are the segments below `fitted` down to `key`; the branch's first `place` cells end with `count`
-- cells of `key`, and its steps fit the register
pub record IsRest {R P : Type 0} (E : R → R → Bool) (is : R → Behaviour P) (trie : TrieOf (StoredRun R P)) (start : Configuration R P) (fitted : Option ℕ) (left : List ℕ) (key count place i : ℕ) : Type 0 where
  pub lies : IsPlaceIn trie key count place i
  pub reached : HasClimbedTo (keys_in trie.branches i) fitted
  pub down : RunsTo E is trie start fitted (keys_in trie.branches i)
  pub path : keys_up_to key (keys_in trie.branches i) ≡ keys_to (keys_in trie.branches i) fitted ++ left
  pub fits : AllFit (is start.register) (map step_of (line (segment_at trie.segments) (keys_in trie.branches i)))

-- true runs are stored at all keys of branch i below `top` down to `key`, and each fits at the
-- exit of the run right above it; there are no such keys if `top` is `key`
pub record IsHung {R P : Type 0} (E : R → R → Bool) (is : R → Behaviour P) (trie : TrieOf (StoredRun R P)) (top key i : ℕ) : Type 0 where
  pub there : has top (keys_in trie.branches i) ≡ true
  pub below : List ℕ
  pub path : keys_up_to key (keys_in trie.branches i) ≡ keys_up_to top (keys_in trie.branches i) ++ below
  pub hangs : (start : Configuration R P) → RunsHang E is trie (exit_or_start trie start (Some top)) below

-- what is left to settle of branch i below `fitted` down to `key`: the segments `left`, down to
-- `top`, and then those below `top`, each of which has a run that begins at the exit of the run
-- right above it
pub record IsLeftToSettle {R P : Type 0} (E : R → R → Bool) (is : R → Behaviour P) (trie : TrieOf (StoredRun R P)) (start : Configuration R P) (fitted : Option ℕ) (left : List ℕ) (top key count place i : ℕ) : Type 0 where
  pub hanging : IsHung E is trie top key i
  pub rest : IsRest E is trie start fitted (left ++ hanging.below) key count place i
