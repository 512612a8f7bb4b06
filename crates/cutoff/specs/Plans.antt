-- The jobs of a plan, and the conditions for an install.
use Rattle.std.specs.Prelude.{ℕ, ◌≡◌, ◌⊎◌, Bool, true, List, [], ◌∷◌, ◌++◌, Option, None, Some, IsSome, Result, IfOk, IfErr, OnOk, map, if◌then◌else◌}
use Rattle.std.specs.Global.{Vec}
use Rattle.frames.specs.declared.types.Step.{Step}
use Rattle.frames.specs.Behaviour.{Behaviour}
use Rattle.frames.specs.Configuration.{Configuration, replayed}
use Rattle.frames.specs.Equality.{SameConfiguration}
use Rattle.checkpoints.specs.Runs.{SegmentRun}
use Rattle.schedule_trie.specs.declared.refusal.Refusal.{Refusal}
use Rattle.schedule_trie.specs.Forest.{index_of}
use Rattle.schedule_trie.specs.Trie.{TrieOf, KeyedBranch, keys_in, has, forest, query_refusal, IsNoted}
use Rattle.cutoff.specs.Fitting.{StoredRun, RunFits, Fits, IsChecked, steps_at}
use Rattle.cutoff.specs.Charts.{Charted, keys_named}

-- a job: the key of a segment, the configuration that replay reaches at its start, and its steps
pub record Planned (R P : Type 0) : Type 0 where
  pub key : ℕ
  pub entry : Configuration R P
  pub steps : List Step

-- the key of a job's segment
abbrev pub key_of : {R P : Type 0} → Planned R P → ℕ
key_of job = job.key

-- the keys of a branch's segments, in order
abbrev pub keys_of : KeyedBranch → List ℕ
keys_of s = s.keys

-- the job of the segment k, which begins at `end`; no job if the key is `None`
abbrev pub job_of : {R P : Type 0} → TrieOf (StoredRun R P) → Option ℕ → Configuration R P → Option (Planned R P)
job_of trie None end = None
job_of trie (Some k) end = Some (record { key = k; entry = end; steps = steps_at trie k })

-- these jobs, followed by the given job, unless it is `None` or its segment has a job already
abbrev pub with_job : {R P : Type 0} → List (Planned R P) → Option (Planned R P) → List (Planned R P)
with_job jobs None = jobs
with_job jobs (Some job) = if has job.key (map key_of jobs) then jobs else jobs ++ job ∷ []

module _ {R P : Type 0} (E : R → R → Bool) (b : Behaviour P) (trie : TrieOf (StoredRun R P)) where
  -- `missed` is the first of these segments that no stored run fits, and replay from c reaches
  -- `end` at the start of `missed`; if stored runs fit all these segments, `missed` is `None`, and
  -- replay reaches `end` after all of them
  abbrev pub Descends : Configuration R P → List ℕ → Option ℕ → Configuration R P → Type 0
  Descends c [] missed end = (missed ≡ None) × SameConfiguration E end c
  Descends c (k ∷ ks) missed end =
      (Fits E trie c k × Descends (replayed b c (steps_at trie k)) ks missed end)
      ⊎ ((Fits E trie c k → ⊥) × (missed ≡ Some k) × SameConfiguration E end c)

  -- stored runs fit all these segments, of which the first begins at c, and replay of them reaches
  -- `entry`
  abbrev pub FitsDownTo : Configuration R P → List ℕ → Configuration R P → Type 0
  FitsDownTo c [] entry = SameConfiguration E entry c
  FitsDownTo c (k ∷ ks) entry = Fits E trie c k × FitsDownTo (replayed b c (steps_at trie k)) ks entry

  -- `key` is one of these segments, of which the first begins at c; `run` fits it, and stored runs
  -- fit all segments above it
  abbrev pub FitsDown : ℕ → SegmentRun R P → Configuration R P → List ℕ → Type 0
  FitsDown key run c [] = ⊥
  FitsDown key run c (k ∷ ks) =
      ((key ≡ k) × RunFits E c (steps_at trie k) run)
      ⊎ ((key ≡ k → ⊥) × Fits E trie c k × FitsDown key run (replayed b c (steps_at trie k)) ks)

  -- each of these paths begins at c; `jobs` are `done`, followed by a job for each path's first
  -- segment that no stored run fits, in the order of the paths; no job is added for a path without
  -- such a segment, or for a segment that has a job already
  abbrev pub Plans : Configuration R P → List (Planned R P) → List (List ℕ) → List (Planned R P) → Type 0
  Plans c done [] jobs = jobs ≡ done
  Plans c done (keys ∷ paths) jobs =
      (missed : Option ℕ) × (end : Configuration R P) × Descends c keys missed end × Plans c (with_job done (job_of trie missed end)) paths jobs

-- `jobs` are a chart's plan: for each branch, a job for its first segment that no stored run fits.
-- The named branch's job, if it has one, comes first, then the jobs of the others in the order the
-- branches were made; no segment has two jobs
abbrev pub IsPlan : {R P : Type 0} → (R → R → Bool) → Behaviour P → Charted R P → List ℕ → List (Planned R P) → Type 0
IsPlan E b c name jobs = Plans E b c.trie c.start [] (keys_named c.trie name ∷ map keys_of c.trie.branches) jobs

-- the result of a plan with the named branch first: the plan's jobs; or NoBranch if there is no
-- such branch, else Memory
pub record AnswersPlan {R P : Type 0} (E : R → R → Bool) (b : Behaviour P) (c : Charted R P) (name : List ℕ) (result : Result (Vec (Planned R P)) Refusal) : Type 0 where
  pub ok : IfOk result (λ jobs. IsPlan E b c name jobs.items)
  pub found : OnOk result (IsSome (index_of (forest c.trie).branches name))
  pub err : IfErr result (λ e. query_refusal (index_of (forest c.trie).branches name) ≡ e)

-- on each branch with the segment `key`, `run` fits that segment and stored runs fit all segments
-- above it
abbrev pub CanInstall : {R P : Type 0} → (R → R → Bool) → Behaviour P → Charted R P → ℕ → SegmentRun R P → Type 0
CanInstall E b c key run = (i : ℕ) → has key (keys_in c.trie.branches i) ≡ true → FitsDown E b c.trie key run c.start (keys_in c.trie.branches i)

-- on each branch with the segment `key`, `run` doesn't fit that segment, or stored runs don't fit
-- all segments above it
abbrev pub CannotInstall : {R P : Type 0} → (R → R → Bool) → Behaviour P → Charted R P → ℕ → SegmentRun R P → Type 0
CannotInstall E b c key run = (i : ℕ) → has key (keys_in c.trie.branches i) ≡ true → FitsDown E b c.trie key run c.start (keys_in c.trie.branches i) → ⊥

-- `run` is stored in the segment `key`; the number with which runs above were last found to fit may
-- change; nothing else changes
pub record IsInstalled {R P : Type 0} (old new : Charted R P) (key : ℕ) (run : SegmentRun R P) : Type 0 where
  pub noted : (s : StoredRun R P) × (mid : TrieOf (StoredRun R P)) × (s.run ≡ run) × IsNoted old.trie mid key (Some s) × IsChecked mid new.trie s.checked key
  pub start : new.start ≡ old.start
  pub value : new.value ≡ old.value
