-- Numbers and links of stored runs. A run's link is the number of a run at whose exit it begins;
-- this saves comparing the two configurations.
use Rattle.std.specs.Prelude.{ℕ, ◌≡◌, ◌<◌, ⊤, Bool, true, List, Option, Some, None, MatchOption, length, map, slice_get}
use Rattle.frames.specs.declared.types.Step.{Step}
use Rattle.frames.specs.Configuration.{Configuration}
use Rattle.frames.specs.Recorded.{without_register}
use Rattle.schedule_trie.specs.Forest.{step_of}
use Rattle.schedule_trie.specs.Trie.{TrieOf, SegmentOf, segment_at}
use Rattle.cutoff.specs.Fitting.{StoredRun}

-- `number` is `None`, or the number of a run with the exit c; `exits` has, at each index, the exit
-- of the run whose number is that index
abbrev pub IsExitOf : {P : Type 0} → List (Configuration ⊤ P) → Option ℕ → Configuration ⊤ P → Type 0
IsExitOf exits number c = MatchOption number ⊤ (λ a. slice_get exits a ≡ Some c)

-- a number, if there is one, is below `next`: it was given to a run
abbrev pub IsGiven : ℕ → Option ℕ → Type 0
IsGiven next number = MatchOption number ⊤ (λ a. a < next)

-- the stored run s begins with a register equal to h (by E), and has its segment's steps; the item
-- of `exits` at the run's number, if any, is the run's exit, and the item at the run's link, if
-- any, is the run's entry; `checked`, if it is a number, was given to a run
pub record IsStored {R P : Type 0} (E : R → R → Bool) (h : R) (exits : List (Configuration ⊤ P)) (segment : List Step) (s : StoredRun R P) : Type 0 where
  pub own : E s.run.entry.register h ≡ true
  pub covers : s.run.steps ≡ segment
  pub id : IsExitOf exits s.id (without_register s.run.exit)
  pub link : IsExitOf exits s.link (without_register s.run.entry)
  pub checked : IsGiven (length exits) s.checked

-- if there is a segment and it has a stored run: the run begins with a register equal to h, and has
-- the segment's steps; its number and link agree with `exits` (`IsStored`)
abbrev pub IsStoredIn : {R P : Type 0} → (R → R → Bool) → R → List (Configuration ⊤ P) → Option (SegmentOf (StoredRun R P)) → Type 0
IsStoredIn E h exits None = ⊤
IsStoredIn E h exits (Some p) = MatchOption p.note ⊤ (IsStored E h exits (map step_of p.slots))

-- the numbers below `next` were given to runs, whose exits are `exits`; each stored run begins with
-- a register equal to h, and has its segment's steps; each such run's number and link, if any,
-- agree with `exits` (`IsStored`); and `above` is `None`, or the number of a run with the exit c
pub record IsLinked {R P : Type 0} (E : R → R → Bool) (h : R) (next : ℕ) (above : Option ℕ) (c : Configuration ⊤ P) (trie : TrieOf (StoredRun R P)) : Type 0 where
  pub exits : List (Configuration ⊤ P)
  pub as_many : length exits ≡ next
  pub each : (k : ℕ) → IsStoredIn E h exits (segment_at trie.segments k)
  pub reached_exit : IsExitOf exits above c

-- the runs stored in `trie` are linked, and `above` is `None`, or the number of a run with the exit
-- c
abbrev pub IsLinkedAt : {R P : Type 0} → (R → R → Bool) → Configuration R P → ℕ → Option ℕ → TrieOf (StoredRun R P) → Type 0
IsLinkedAt E c next above trie = IsLinked E c.register next above (without_register c) trie

-- the runs stored in `trie`, of a chart that begins from `start`, are linked, for some number of
-- runs
abbrev pub AreLinked : {R P : Type 0} → (R → R → Bool) → Configuration R P → TrieOf (StoredRun R P) → Type 0
AreLinked E start trie = (next : ℕ) × IsLinkedAt E start next None trie

-- the number of a stored run; `None` if there is no run, or if it has no number
abbrev pub run_number : {R P : Type 0} → Option (StoredRun R P) → Option ℕ
run_number None = None
run_number (Some s) = s.id

-- the number with which a stored run was last found to fit; `None` if there is no run or no number
abbrev pub run_checked : {R P : Type 0} → Option (StoredRun R P) → Option ℕ
run_checked None = None
run_checked (Some s) = s.checked
