-- What a walk over stored runs requires of the runs, and what it finds. `test` says of each place
-- whether it is a hit, which means that a break is met there.
use Rattle.std.specs.Prelude.{ℕ, ◌+◌, ◌≡◌, ◌<◌, ◌≤◌, Bool, true, false, List, [], ◌∷◌, Option, length, take, slice_index_or}
use Rattle.std.specs.List.{list_any}
use Rattle.frames.specs.declared.types.StepEvents.{StepEvents}
use Rattle.frames.specs.Behaviour.{Behaviour}
use Rattle.frames.specs.declared.types.Step.{Step}
use Rattle.frames.specs.Configuration.{Configuration, replayed, history}
use Rattle.cutoff.specs.Fitting.{RunPart}
use Rattle.pages.specs.declared.breakpoint.Break.{Break}
use Rattle.pages.specs.declared.breakpoint.Break.TheVariants.{Bit}
use Rattle.pages.specs.Breaks.{is_met, is_met_by_events}
use Rattle.sessions.specs.declared.seek.Search.{Search}
use Rattle.sessions.specs.Seeks.{next_place, no_events, places_with}

-- what a search finds among the places below n that pass the test: the nearest in its direction
abbrev pub found_below : Search → (ℕ → Bool) → ℕ → Option ℕ
found_below search test n = next_place search.way search.from (places_with test n)

-- if `found` is what a search finds among the places from 0 to `place`, then `result` is what it
-- finds among those from 0 to `place + count`
abbrev pub SearchGoesOn : Search → (ℕ → Bool) → ℕ → ℕ → Option ℕ → Option ℕ → Type 0
SearchGoesOn search test place count found result = found ≡ found_below search test (place + 1) → result ≡ found_below search test ((place + count) + 1)

-- whether a break is on a bit
abbrev pub is_on_bit : Break → Bool
is_on_bit (Bit j v) = true
is_on_bit break = false

-- whether a step that records these events meets one of the breaks
abbrev pub is_any_met_by_events : List Break → StepEvents → Bool
is_any_met_by_events breaks events = list_any (λ break. is_met_by_events break events) breaks

-- the test is right for successive steps from `place` on, which recorded these events: at the place
-- after each step, it says whether the events of that step meet one of the breaks
abbrev pub ReportsEvents : List Break → (ℕ → Bool) → ℕ → List StepEvents → Type 0
ReportsEvents breaks test place events = (i : ℕ) → i < length events → test ((place + 1) + i) ≡ is_any_met_by_events breaks (slice_index_or events i no_events)

-- the test is right for these steps, replayed from the configuration c at `place`: at the place
-- after each step, it says whether one of the breaks is met
abbrev pub ReportsSteps : {R P : Type 0} → Behaviour P → List Break → (ℕ → Bool) → ℕ → Configuration R P → List Step → Type 0
ReportsSteps b breaks test place c steps =
    (i : ℕ) → i < length steps → test ((place + 1) + i) ≡ is_met breaks (slice_index_or (history b c steps) i no_events) (replayed b c (take (i + 1) steps)).memory

module _ {R P : Type 0} (is : R → Behaviour P) (breaks : List Break) (test : ℕ → Bool) where
  -- the test is right for the first `count` steps of a stored run, the first of which is at
  -- `place`: at the place after each of these steps, it says whether one of the breaks is met
  pub record ReportsPart (place : ℕ) (part : RunPart R P) : Type 0 where
    pub within : part.count ≤ length part.run.steps
    pub each : (i : ℕ) → i < part.count
        → test ((place + 1) + i) ≡ is_met breaks (slice_index_or (history (is part.run.entry.register) part.run.entry part.run.steps) i no_events)
        (replayed (is part.run.entry.register) part.run.entry (take (i + 1) part.run.steps)).memory

  -- the test is right, as `ReportsPart` says, for each of these parts of stored runs; the first
  -- part begins at `place`, and each other part begins at the place at which the part before it
  -- ends
  abbrev pub ReportsParts : ℕ → List (RunPart R P) → Type 0
  ReportsParts place [] = Unit {0}
  ReportsParts place (part ∷ parts) = ReportsPart place part × ReportsParts (place + part.count) parts
