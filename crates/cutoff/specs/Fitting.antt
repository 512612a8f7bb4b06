-- Stored runs: when they fit, and what a settle changes.
use Rattle.std.specs.Prelude.{ℕ, ◌+◌, ◌-◌, ◌≡◌, ◌⊎◌, Bool, true, nat_eq, min, List, [], ◌∷◌, Option, None, Some, MatchOption, length, map, if◌then◌else◌}
use Rattle.std.specs.Option.{option_map}
use Rattle.std.specs.Arc.{arc_value}
use Rattle.std.specs.declared.sync.Arc.{Arc}
use Rattle.frames.specs.declared.types.Step.{Step}
use Rattle.frames.specs.Configuration.{Configuration}
use Rattle.frames.specs.Equality.{SameConfiguration}
use Rattle.checkpoints.specs.Runs.{SegmentRun}
use Rattle.schedule_trie.specs.declared.slot.Slot.{Slot}
use Rattle.schedule_trie.specs.Forest.{step_of}
use Rattle.schedule_trie.specs.Trie.{TrieOf, SegmentOf, segment, segment_at, slots_of, note_of, keys_in, has, forest}
use Rattle.schedule_trie.specs.Climbs.{keys_up_to}

-- a stored run, with its number and its link, if it has them; the link is the number of another
-- run, at whose exit this one was found to begin. `checked` is the run's number, or that of a run
-- installed later, at whose install this one was found to fit
pub record StoredRun (R P : Type 0) : Type 0 where
  pub run : SegmentRun R P
  pub id : Option ℕ
  pub link : Option ℕ
  pub checked : Option ℕ

-- a run, and how many of its steps count: those of the cells that were settled
pub record RunPart (R P : Type 0) : Type 0 where
  pub run : SegmentRun R P
  pub count : ℕ

-- `run` fits a segment with these steps, which begins at c: the run has the same steps, and also
-- begins at c; registers are compared by E
pub record RunFits {R P : Type 0} (E : R → R → Bool) (c : Configuration R P) (segment : List Step) (run : SegmentRun R P) : Type 0 where
  pub steps : run.steps ≡ segment
  pub entry : SameConfiguration E run.entry c

module _ {R P : Type 0} where
  -- a stored run, without the numbers that are stored with it
  abbrev pub bare_run : StoredRun R P → SegmentRun R P
  bare_run s = s.run

  -- the steps of the segment at a key
  abbrev pub steps_at : TrieOf (StoredRun R P) → ℕ → List Step
  steps_at trie k = map step_of (slots_of (segment_at trie.segments k))

  -- the run stored at a key, if there is one
  abbrev pub run_at : TrieOf (StoredRun R P) → ℕ → Option (SegmentRun R P)
  run_at trie k = option_map bare_run (note_of (segment_at trie.segments k))

  -- given a branch's keys in order, those of the segments that have at least one of the branch's
  -- first `place` cells
  abbrev pub reached : TrieOf (StoredRun R P) → ℕ → List ℕ → List ℕ
  reached trie place [] = []
  reached trie place (k ∷ ks) = if nat_eq place 0 then [] else k ∷ reached trie (place - length (steps_at trie k)) ks

  -- the segment k, which begins at c, has a stored run that fits it
  abbrev pub Fits : (R → R → Bool) → TrieOf (StoredRun R P) → Configuration R P → ℕ → Type 0
  Fits E trie c k = MatchOption (run_at trie k) ⊥ (RunFits E c (steps_at trie k))

-- how many steps count in all these parts together
abbrev pub counted : {R P : Type 0} → List (RunPart R P) → ℕ
counted [] = 0
counted (part ∷ parts) = part.count + counted parts

-- of these runs, up to the first that is missing, those that have one of the first `place` of all
-- their steps, in order; each with how many of these `place` steps it has
abbrev pub parts_of : {R P : Type 0} → ℕ → List (Option (SegmentRun R P)) → List (RunPart R P)
parts_of place [] = []
parts_of place (None ∷ runs) = []
parts_of place (Some run ∷ runs) =
    if nat_eq place 0 then [] else record { run = run; count = min place (length run.steps) } ∷ parts_of (place - min place (length run.steps)) runs

-- the cells of the segment at a key, if there is one
abbrev pub slots_at : {R P : Type 0} → TrieOf (StoredRun R P) → ℕ → Option (List Slot)
slots_at trie k = option_map (λ p. p.slots) (segment_at trie.segments k)

-- the branches and their segments stay the same, and each segment k for which `Gets k` doesn't hold
-- keeps its stored run
pub record KeepsRuns {R P : Type 0} (old new : TrieOf (StoredRun R P)) (Gets : ℕ → Type 0) : Type 0 where
  pub branches : new.branches ≡ old.branches
  pub limits : new.limits ≡ old.limits
  pub forest_kept : forest new ≡ forest old
  pub slots : (k : ℕ) → slots_at new k ≡ slots_at old k
  pub runs : (k : ℕ) → (run_at new k ≡ run_at old k) ⊎ Gets k

-- a shared run and how many of its steps count, as a `RunPart`
abbrev pub part_of : {R P Z : Type 0} → (Arc (SegmentRun R P) Z × ℕ) → RunPart R P
part_of p = record { run = arc_value p.0; count = p.1 }

-- a stored run, of which this many steps count, as a `RunPart`
abbrev pub part_of_stored : {R P : Type 0} → ℕ → StoredRun R P → RunPart R P
part_of_stored count s = record { run = s.run; count = count }

-- the same stored run, which was last found to fit at the install of the run `number`
abbrev pub with_checked : {R P : Type 0} → Option ℕ → StoredRun R P → StoredRun R P
with_checked number s = record { run = s.run; id = s.id; link = s.link; checked = number }

-- the same cells and stored run, which was last found to fit at the install of the run `number`
abbrev pub checked_segment : {R P : Type 0} → Option ℕ → SegmentOf (StoredRun R P) → SegmentOf (StoredRun R P)
checked_segment number p = segment p.slots (option_map (with_checked number) p.note)

-- on each branch with the segment `key`, the segment k is `key` or above it
abbrev pub IsOnWayTo : {R P : Type 0} → TrieOf (StoredRun R P) → ℕ → ℕ → Type 0
IsOnWayTo trie key k = (i : ℕ) → has key (keys_in trie.branches i) ≡ true → has k (keys_up_to key (keys_in trie.branches i)) ≡ true

-- of runs on the way to the segment `key`, the number with which they were last found to fit may
-- change, to `number`; nothing else changes
pub record IsChecked {R P : Type 0} (old new : TrieOf (StoredRun R P)) (number : Option ℕ) (key : ℕ) : Type 0 where
  pub branches : new.branches ≡ old.branches
  pub limits : new.limits ≡ old.limits
  pub unchanged : forest new ≡ forest old
  pub each : (k : ℕ) → (segment_at new.segments k ≡ segment_at old.segments k)
      ⊎ (IsOnWayTo old key k × (segment_at new.segments k ≡ option_map (checked_segment number) (segment_at old.segments k)))
