-- That no process of a matrix is refused while it writes its row: a row is written as a whole, or
-- no part of it is.
use Rattle.std.specs.Prelude.{◌≡◌, ℕ, ◌<◌, ◌⊎◌, Bool, true, false, List, Option, Some, None}
use Rattle.frames.specs.declared.types.Event.TheVariants.{Refused}
use Rattle.frames.specs.declared.types.Layer.{Layer}
use Rattle.frames.specs.declared.types.Step.{Step}
use Rattle.frames.specs.declared.types.Step.TheVariants as step
use Rattle.frames.specs.declared.types.StepEvents.{StepEvents}
use Rattle.frames.specs.declared.running.Running.{Running}
use Rattle.frames.specs.Behaviour.{Behaviour}
use Rattle.frames.specs.Configuration.{running_at, replayed, events_of, fits_step}
use Rattle.frames.specs.Recorded.{AllFit, first_configuration}
use Rattle.layers.specs.declared.nested.Nested.{Nested}
use Rattle.matrix.specs.declared.task.MatrixTask.{MatrixTask}
use Rattle.matrix.specs.declared.task.MatrixTask.TheVariants.{Column, Row}

-- whether a task writes a part of a row
abbrev pub is_row : MatrixTask → Bool
is_row (Column who o j greatest) = false
is_row (Row who o j code) = true

-- whether a process writes a part of its row, if it has this operation pending, or none
abbrev pub writes_row : {P : Type 0} → Option (Running (Nested MatrixTask P)) → Bool
writes_row None = false
writes_row (Some r) = is_row r.point.task

-- a step with these events refuses process p's operation, for lack of this layer's stamps or tags
abbrev pub RefusesIn : ℕ → StepEvents → Layer → Type 0
RefusesIn p e layer = (e.first ≡ Some (Refused p layer)) ⊎ (e.second ≡ Some (Refused p layer))

-- On every list of fitting steps, from every initial value: if a process is writing its row, its
-- next bit action doesn't refuse its operation.
abbrev pub RefusesNoRow : {P : Type 0} → Behaviour (Nested MatrixTask P) → Type 0
RefusesNoRow b = (value : ℕ) (steps : List Step) (p choice : ℕ) (layer : Layer) → value < b.values → AllFit b steps → fits_step b (step.Go p choice) ≡ true
    → writes_row (running_at p (replayed b (first_configuration b value) steps)) ≡ true
    → RefusesIn p (events_of b (replayed b (first_configuration b value) steps) (step.Go p choice)) layer → ⊥
