-- Definitions that claim that something exists: an example of each, and a near miss.
use Rattle.std.proofs.Common.{ℕ, zero, suc, ◌≡◌, Bool, true, List, [], ◌∷◌, Option, Some, None, option_map, codes, slice_index_or, ap, refl, ◌∙◌, ◌⊎◌, inl, inr, ⊎_elim, arith}
use Rattle.std.specs.Prelude.{⊤}
use Rattle.frames.specs.declared.types.Step.{Step}
use Rattle.frames.specs.declared.types.Step.TheVariants.{Write, Read}
use Rattle.frames.specs.declared.safe.SafePoint.{SafePoint}
use Rattle.frames.specs.SafeBit.{safe_behaviour}
use Rattle.frames.specs.Configuration.{Configuration, initial_configuration, replayed, history}
use Rattle.frames.specs.Equality.{SameConfiguration}
use Rattle.checkpoints.specs.Runs.{SegmentRun}
use Rattle.schedule_trie.specs.Forest.{slot}
use Rattle.schedule_trie.specs.Trie.{TrieOf, SegmentOf, keyed_branch, segment, segment_at, note_of, with_note}
use Rattle.cutoff.specs.Fitting.{StoredRun, RunPart, IsOnWayTo, checked_segment}
use Rattle.cutoff.specs.Settles.{Settles, HasFitting, IsSettledLast, last_part}
use Rattle.cutoff.specs.Charts.{Charted}
use Rattle.cutoff.specs.Plans.{job_of, with_job, Plans, IsInstalled}

-- registers of one safe bit, which are all equal
abbrev same : ⊤ → ⊤ → Bool
same a b = true

abbrev SafeConfiguration : Type 0
SafeConfiguration = Configuration ⊤ SafePoint

abbrev SafeRun : Type 0
SafeRun = SegmentRun ⊤ SafePoint

abbrev start : SafeConfiguration
start = initial_configuration safe_behaviour tt 0

same_as : (c : SafeConfiguration) → SameConfiguration same c c
same_as c = record { register = refl; memory = refl; running = refl; stopped = refl }

-- a run of one step from the start
abbrev run_over : Step → SafeRun
run_over s = record {
  entry = start;
  steps = s ∷ [];
  exit = replayed safe_behaviour start (s ∷ []);
  events = history safe_behaviour start (s ∷ []);
}

abbrev writing : SafeRun
writing = run_over (Write 0 1)

abbrev reading : SafeRun
reading = run_over (Read 1)

abbrev stored : SafeRun → StoredRun ⊤ SafePoint
stored run = record { run = run; id = None; link = None; checked = None }

-- `main` alone: one segment, at key 0, with the one step in which process 0 invokes a write of 1;
-- with or without a stored run
abbrev trie_with : Option SafeRun → TrieOf (StoredRun ⊤ SafePoint)
trie_with run = record {
  branches = keyed_branch (codes "main") (0 ∷ []) ∷ [];
  segments = Some (segment (slot 0 (Write 0 1) ∷ []) (option_map stored run)) ∷ [];
  made = 1;
  limits = record { cells = 9; branches = 9; log = 9 };
}

abbrev chart_with : Option SafeRun → Charted ⊤ SafePoint
chart_with run = record { trie = trie_with run; start = start; value = 0 }

abbrev part : RunPart ⊤ SafePoint
part = record { run = writing; count = 1 }

abbrev first_step : Option SafeRun → Step
first_step None = Read 7
first_step (Some run) = slice_index_or run.steps 0 (Read 7)

some_part : (part : RunPart ⊤ SafePoint) → Some part ≡ None → ⊥
some_part part e = cc

no_parts : (part : RunPart ⊤ SafePoint) (parts : List (RunPart ⊤ SafePoint)) → part ∷ parts ≡ [] → ⊥
no_parts part parts e = cc

no_note : (s : StoredRun ⊤ SafePoint) → None ≡ Some s → ⊥
no_note s e = cc

other_steps : Read 1 ≡ Write 0 1 → ⊥
other_steps e = cc

-- the one step of `main` is settled; no run was stored, so this step was replayed
settled : Settles same safe_behaviour (trie_with None) (trie_with (Some writing)) start 1 (0 ∷ []) (part ∷ []) 1
settled =
    (1, 0, refl, record { stored = refl; fits = record { steps = refl; entry = same_as start }; count = refl; work = inr (λ h. h, refl) }, (refl, refl))

-- one step is settled, and it was replayed, since no run was stored
Settles-holds : Settles same safe_behaviour (trie_with None) (trie_with (Some writing)) start 1 (0 ∷ []) (part ∷ []) 1
Settles-holds = settled

-- no step was replayed, although no run was stored
Settles-fails : Settles same safe_behaviour (trie_with None) (trie_with (Some writing)) start 1 (0 ∷ []) (part ∷ []) 0 → ⊥
Settles-fails h = ⊎_elim (λ kept. kept.0) (λ made. omega (arith, h.2, made.1)) h.3.work

-- a run of the segment's own step is stored
HasFitting-holds : HasFitting same safe_behaviour (trie_with None) (trie_with (Some writing)) start 0
HasFitting-holds = (writing, refl, record { steps = refl; entry = same_as start })

-- the run that is stored is one of another step
HasFitting-fails : HasFitting same safe_behaviour (trie_with None) (trie_with (Some reading)) start 0 → ⊥
HasFitting-fails h =
    other_steps (ap first_step h.1 ∙ ap (λ steps. slice_index_or steps 0 (Read 7)) h.2.steps)

-- the last run of a settle of one step
IsSettledLast-holds : IsSettledLast same safe_behaviour (chart_with None) (chart_with (Some writing)) (codes "main") 1 (Some part) 1
IsSettledLast-holds = (part ∷ [], record { settles = settled; sum = refl }, refl)

-- there is no last run, although the place is 1
IsSettledLast-fails : IsSettledLast same safe_behaviour (chart_with None) (chart_with (Some writing)) (codes "main") 1 None 1 → ⊥
IsSettledLast-fails h = by h.0 h.1.settles h.2
  where
    by : (parts : List (RunPart ⊤ SafePoint))
        → Settles same safe_behaviour (trie_with None) (trie_with (Some writing)) start 1 (0 ∷ []) parts 1 → last_part parts ≡ None → ⊥
    by [] settles last = settles
    by (one ∷ []) settles last = some_part one last
    by (one ∷ next ∷ parts) settles last = no_parts next parts settles.4.0

-- the one segment has no run: it is the one job
Plans-holds : Plans same safe_behaviour (trie_with None) start [] ((0 ∷ []) ∷ []) (record { key = 0; entry = start; steps = Write 0 1 ∷ [] } ∷ [])
Plans-holds = (Some 0, start, inr (λ h. h, refl, same_as start), refl)

-- there is no job, although the segment has no run
Plans-fails : Plans same safe_behaviour (trie_with None) start [] ((0 ∷ []) ∷ []) [] → ⊥
Plans-fails h = ⊎_elim (λ fits. fits.0) (λ missed. one_job h.1 (h.3 ∙ ap (λ m. with_job [] (job_of (trie_with None) m h.1)) missed.1)) h.2
  where
    one_job : (end : SafeConfiguration) → [] ≡ with_job [] (job_of (trie_with None) (Some 0) end) → ⊥
    one_job end e = cc

-- the run is stored at the one segment
IsInstalled-holds : IsInstalled (chart_with None) (chart_with (Some writing)) 0 writing
IsInstalled-holds = record {
  noted = (
    stored writing,
    trie_with (Some writing),
    refl,
    record { here = refl; others = others; branches = refl; limits = refl; unchanged = refl },
    record { branches = refl; limits = refl; unchanged = refl; each = λ k. inl refl },
  );
  start = refl;
  value = refl;
}
  where
    others : (j : ℕ) → (j ≡ 0 → ⊥) → segment_at (trie_with (Some writing)).segments j ≡ segment_at (trie_with None).segments j
    others zero other = absurd (other refl)
    others (suc j) other = refl

-- nothing is stored
IsInstalled-fails : IsInstalled (chart_with None) (chart_with None) 0 writing → ⊥
IsInstalled-fails h = by (segment_at h.noted.1.segments 0) h.noted.3.here (h.noted.4.each 0)
  where
    by : (o : Option (SegmentOf (StoredRun ⊤ SafePoint))) → o ≡ option_map (with_note (Some h.noted.0)) (segment_at (trie_with None).segments 0)
        → (segment_at (trie_with None).segments 0 ≡ o) ⊎ (IsOnWayTo h.noted.1 0 0 × (segment_at (trie_with None).segments 0 ≡ option_map (checked_segment h.noted.0.checked) o)) → ⊥
    by o e (inl same) = no_note h.noted.0 (ap note_of (same ∙ e))
    by o e (inr again) = no_note _ (ap note_of (again.1 ∙ ap (option_map (checked_segment h.noted.0.checked)) e))
