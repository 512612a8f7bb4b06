-- What a settle replays, stores and returns.
use Rattle.std.specs.Prelude.{ℕ, ◌+◌, ◌-◌, ◌≡◌, ◌⊎◌, Bool, min, List, [], ◌∷◌, ◌++◌, Option, Some, None, length}
use Rattle.frames.specs.Behaviour.{Behaviour}
use Rattle.frames.specs.Configuration.{Configuration, replayed}
use Rattle.checkpoints.specs.Runs.{SegmentRun}
use Rattle.schedule_trie.specs.Trie.{TrieOf, segment_at, note_of, keys_in, IsNoted}
use Rattle.cutoff.specs.Fitting.{StoredRun, RunPart, RunFits, Fits, KeepsRuns, counted, reached, run_at, steps_at}
use Rattle.cutoff.specs.Prefixes.{RunsTo}
use Rattle.cutoff.specs.Charts.{Charted, reached_by}

-- settling the segment k at c replays n steps: none if the segment's stored run fits there, and
-- `run` is then that stored run; otherwise all of the segment's steps
abbrev pub ReplaysIfNeeded : {R P : Type 0} → (R → R → Bool) → TrieOf (StoredRun R P) → Configuration R P → ℕ → SegmentRun R P → ℕ → Type 0
ReplaysIfNeeded E old c k run n = (Fits E old c k × (run_at old k ≡ Some run) × (n ≡ 0)) ⊎ ((Fits E old c k → ⊥) × (n ≡ length (steps_at old k)))

-- the segment k is settled at c, and n steps are replayed: the run of `part`, which fits, is now
-- stored there, and its first `place` steps count, or all if there are fewer
pub record IsSettledAt {R P : Type 0} (E : R → R → Bool) (old new : TrieOf (StoredRun R P)) (c : Configuration R P) (place k : ℕ) (part : RunPart R P) (n : ℕ) : Type 0 where
  pub stored : run_at new k ≡ Some part.run
  pub fits : RunFits E c (steps_at old k) part.run
  pub count : part.count ≡ min place (length (steps_at old k))
  pub work : ReplaysIfNeeded E old c k part.run n

module _ {R P : Type 0} (E : R → R → Bool) (b : Behaviour P) (old : TrieOf (StoredRun R P)) where
  -- these segments, of which the first begins at c, are settled one after another: `parts` are
  -- their runs, each with how many of its steps are among the first `place` steps of these
  -- segments; and n steps are replayed
  abbrev pub Settles : TrieOf (StoredRun R P) → Configuration R P → ℕ → List ℕ → List (RunPart R P) → ℕ → Type 0
  Settles new c place [] parts n = (parts ≡ []) × (n ≡ 0)
  Settles new c place (k ∷ ks) [] n = ⊥
  Settles new c place (k ∷ ks) (part ∷ parts) n =
      (here : ℕ) × (below : ℕ) × (n ≡ here + below) × IsSettledAt E old new c place k part here
      × Settles new (replayed b c (steps_at old k)) (place - length (steps_at old k)) ks parts below

  -- the segment k, which begins at c, now has a stored run that fits it
  abbrev pub HasFitting : TrieOf (StoredRun R P) → Configuration R P → ℕ → Type 0
  HasFitting new c k = (run : SegmentRun R P) × (run_at new k ≡ Some run) × RunFits E c (steps_at old k) run

  -- k is one of these segments, of which the first begins at c; no stored run fitted k, and a run
  -- that fits k is now stored
  abbrev pub GetsRun : TrieOf (StoredRun R P) → Configuration R P → List ℕ → ℕ → Type 0
  GetsRun new c [] k = ⊥
  GetsRun new c (j ∷ js) k =
      ((k ≡ j) × (Fits E old c j → ⊥) × HasFitting new c j) ⊎ GetsRun new (replayed b c (steps_at old j)) js k

-- the segment k is settled at c, and n steps are replayed: s, whose run fits, is now stored there,
-- and nothing else changes
pub record IsSegmentSettled {R P : Type 0} (E : R → R → Bool) (old new : TrieOf (StoredRun R P)) (c : Configuration R P) (k : ℕ) (s : StoredRun R P) (n : ℕ) : Type 0 where
  pub noted : IsNoted old new k (Some s)
  pub fits : RunFits E c (steps_at old k) s.run
  pub work : ReplaysIfNeeded E old c k s.run n

-- the last of these parts is the run stored in the segment `key`, of which `count` steps count
pub record EndsWith {R P : Type 0} (trie : TrieOf (StoredRun R P)) (key count : ℕ) (parts : List (RunPart R P)) : Type 0 where
  pub before : List (RunPart R P)
  pub stored : StoredRun R P
  pub noted : note_of (segment_at trie.segments key) ≡ Some stored
  pub is : parts ≡ before ++ record { run = stored.run; count = count } ∷ []

-- a settle of the first `place` cells of branch i replays n steps; its last part is the run now
-- stored in the segment `key`, of which `count` steps count; and true runs that fit are now stored
-- from the branch's first segment down to `key`
pub record SettlesTo {R P : Type 0} (E : R → R → Bool) (is : R → Behaviour P) (old new : TrieOf (StoredRun R P)) (start : Configuration R P) (key count place i n : ℕ) : Type 0 where
  pub parts : List (RunPart R P)
  pub settles : Settles E (is start.register) old new start place (reached old place (keys_in old.branches i)) parts n
  pub sum : counted parts ≡ place
  pub last : EndsWith new key count parts
  pub down : RunsTo E is new start (Some key) (keys_in old.branches i)

-- all that a settle of the named branch's first `place` cells may change: a segment that has one of
-- these cells and no stored run that fits may have one that fits now
abbrev pub KeepsOrSettles : {R P : Type 0} → (R → R → Bool) → (R → Behaviour P) → Charted R P → Charted R P → List ℕ → ℕ → Type 0
KeepsOrSettles E is old new name place =
    KeepsRuns old.trie new.trie (GetsRun E (is old.start.register) old.trie new.trie old.start (reached_by old.trie name place))

-- the result of a settle of the named branch's first `place` cells. `parts` are the runs now stored
-- in the segments that have at least one of these cells, in order. Each run fits its segment, and
-- comes with how many of its steps count; `place` steps count in all. n steps were replayed
pub record IsSettled {R P : Type 0} (E : R → R → Bool) (b : Behaviour P) (old new : Charted R P) (name : List ℕ) (place : ℕ) (parts : List (RunPart R P)) (n : ℕ) : Type 0 where
  pub settles : Settles E b old.trie new.trie old.start place (reached_by old.trie name place) parts n
  pub sum : counted parts ≡ place

-- the last of these parts; `None` if there are none
abbrev pub last_part : {R P : Type 0} → List (RunPart R P) → Option (RunPart R P)
last_part [] = None
last_part (part ∷ []) = Some part
last_part (part ∷ next ∷ parts) = last_part (next ∷ parts)

-- the result of a settle of the named branch's first `place` cells, if only the last part is
-- returned: `last` is that part, or `None` if there are no parts; n steps were replayed
abbrev pub IsSettledLast : {R P : Type 0} → (R → R → Bool) → Behaviour P → Charted R P → Charted R P → List ℕ → ℕ → Option (RunPart R P) → ℕ → Type 0
IsSettledLast {R} {P} E b old new name place last n = (parts : List (RunPart R P)) × IsSettled E b old new name place parts n × (last_part parts ≡ last)
