-- The places of a branch at which a break is met, and the one that a seek finds.
use Rattle.std.specs.Prelude.{ℕ, zero, suc, ◌+◌, ◌≡◌, ◌<◌, Bool, true, false, nat_lt, List, Option, None, length, filter, take, reverse, slice_index_or}
use Rattle.std.specs.List.{find, range_with_len}
use Rattle.frames.specs.declared.types.Step.{Step}
use Rattle.frames.specs.declared.types.StepEvents.{StepEvents}
use Rattle.frames.specs.Behaviour.{Behaviour}
use Rattle.frames.specs.Configuration.{history}
use Rattle.pages.specs.declared.breakpoint.Break.{Break}
use Rattle.pages.specs.Breaks.{is_met}
use Rattle.frames.specs.Recorded.{first_configuration, configuration_after}
use Rattle.sessions.specs.declared.way.Way.{Way}
use Rattle.sessions.specs.declared.way.Way.TheVariants.{Forth, Back}

-- the events of a step that recorded none
abbrev pub no_events : StepEvents
no_events = record { first = None; second = None }

-- the places below `n` that pass a test, in order
abbrev pub places_with : (ℕ → Bool) → ℕ → List ℕ
places_with test n = filter test (range_with_len 0 n)

module _ {P : Type 0} (b : Behaviour P) (value : ℕ) (steps : List Step) where
  -- the events of the step right before a place; none at the beginning
  abbrev pub events_before : ℕ → StepEvents
  events_before zero = no_events
  events_before (suc k) = slice_index_or (history b (first_configuration b value) steps) k no_events

  -- whether a place is a hit: the step before it records an event that meets a break, or the
  -- configuration there meets a break on a bit
  abbrev pub is_hit : List Break → ℕ → Bool
  is_hit breaks place = is_met breaks (events_before place) (configuration_after b value (take place steps)).memory

  -- the places of the branch that are hits, in order
  abbrev pub hits : List Break → List ℕ
  hits breaks = places_with (is_hit breaks) (length steps + 1)

-- the least of `places` that is greater than `place`, if any; `places` have to be in order
abbrev pub least_above : ℕ → List ℕ → Option ℕ
least_above place places = find (nat_lt place) places

-- the greatest of `places` that is less than `place`, if any; `places` have to be in order
abbrev pub greatest_below : ℕ → List ℕ → Option ℕ
greatest_below place places = find (λ k. nat_lt k place) (reverse places)

-- the nearest of `places` that is after `place` (Forth) or before it (Back), if any; `places` have
-- to be in order
abbrev pub next_place : Way → ℕ → List ℕ → Option ℕ
next_place Forth place places = least_above place places
next_place Back place places = greatest_below place places

-- whether `place` is after `from` (Forth) or before it (Back)
abbrev pub is_ahead : Way → ℕ → ℕ → Bool
is_ahead Forth from place = nat_lt from place
is_ahead Back from place = nat_lt place from

-- `place` is the nearest hit from `from` in a direction: it is below `n`, after `from` (Forth) or
-- before it (Back), and passes the test, and no place between `from` and `place` passes the test
pub record IsNextHit (way : Way) (test : ℕ → Bool) (n from place : ℕ) : Type 0 where
  pub within : place < n
  pub hit : test place ≡ true
  pub ahead : is_ahead way from place ≡ true
  pub first : (j : ℕ) → j < n → is_ahead way from j ≡ true → is_ahead way j place ≡ true → test j ≡ false
