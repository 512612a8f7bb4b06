-- What a lens, a cache of configurations, keeps for each place of a run.
use Rattle.std.specs.Prelude.{ℕ, ◌≡◌, Contains}
use Rattle.checkpoints.specs.Runs.{SegmentRun}
use Rattle.frames.specs.Behaviour.{Behaviour}
use Rattle.frames.specs.Configuration.{Configuration}
use Rattle.cutoff.specs.Fitting.{RunPart}
use Rattle.lru.specs.LruCache.{LruCache}
use Rattle.views.specs.declared.lens.TheConstants.{PLACES}
use Rattle.views.specs.Spots.{IsAlike, part_end}

-- the configuration c is like the one that the first `count` steps of a run reach: the registers
-- behave alike, and all else is equal
abbrev pub IsAt : {R P : Type 0} → (R → Behaviour P) → SegmentRun R P → ℕ → Configuration R P → Type 0
IsAt is run count c = IsAlike is c (part_end is (record { run = run; count = count }))

-- A key of a lens's cache is a run and a number `count`. The configuration that the cache has for a
-- key is like the one that the first `count` steps of the key's run reach.
abbrev pub MatchTheirKeys : {R P : Type 0} → (R → Behaviour P) → LruCache (RunPart R P) (Configuration R P) → Type 0
MatchTheirKeys {R} {P} is places = (e : RunPart R P × Configuration R P) → Contains places.entries e → IsAlike is e.1 (part_end is e.0)

-- what holds of each lens's cache: its configurations match their keys, and it may have at most
-- PLACES of them; a cache never has more than its capacity
abbrev pub IsLens : {R P : Type 0} → (R → Behaviour P) → LruCache (RunPart R P) (Configuration R P) → Type 0
IsLens is places = MatchTheirKeys is places × (places.cap ≡ PLACES)
