-- The steps by which a place of a run is hashed.
use Rattle.std.specs.Prelude.{ℕ, ◌-◌, List, drop, length, take}
use Rattle.frames.specs.declared.types.Step.{Step}
use Rattle.cutoff.specs.Fitting.{RunPart}
use Rattle.views.specs.declared.run_place.TheConstants.{HASHED_STEPS}

-- the last HASHED_STEPS of the first `count` steps, or all of these if there are fewer
abbrev pub last_steps : ℕ → List Step → List Step
last_steps count steps = drop (length (take count steps) - HASHED_STEPS) (take count steps)

-- the steps by which a place of a run is hashed: the last HASHED_STEPS steps before the place, or
-- all if there are fewer
abbrev pub hashed_steps : {R P : Type 0} → RunPart R P → List Step
hashed_steps part = last_steps part.count part.run.steps
