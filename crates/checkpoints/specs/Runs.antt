-- Runs of segments.
use Rattle.std.specs.Prelude.{◌≡◌, List}
use Rattle.frames.specs.declared.types.Step.{Step}
use Rattle.frames.specs.declared.types.StepEvents.{StepEvents}
use Rattle.frames.specs.Behaviour.{Behaviour}
use Rattle.frames.specs.Configuration.{Configuration, replayed, history}
use Rattle.frames.specs.Recorded.{AllFit}

-- a run of a segment: the configuration before its steps, the steps, the configuration after them,
-- and the events of each step
pub record SegmentRun (R P : Type 0) : Type 0 where
  pub entry : Configuration R P
  pub steps : List Step
  pub exit : Configuration R P
  pub events : List StepEvents

-- a run is true: its steps fit the register with the behaviour b, and making them one after another
-- from its entry gives its exit and its events, with one item for each step
pub record IsTrueRun {R P : Type 0} (b : Behaviour P) (run : SegmentRun R P) : Type 0 where
  pub fits : AllFit b run.steps
  pub exit : run.exit ≡ replayed b run.entry run.steps
  pub events : run.events ≡ history b run.entry run.steps
