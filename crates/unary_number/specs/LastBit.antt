-- The claim that no read of a unary number's last bit gives 0.
use Rattle.std.specs.Prelude.{◌≡◌, ◌≢◌, ℕ, ◌<◌, ◌+◌, ⊤, true, List}
use Rattle.std.specs.List.{All}
use Rattle.frames.specs.declared.types.Step.{Step}
use Rattle.frames.specs.declared.types.Outcome.{Outcome}
use Rattle.frames.specs.declared.types.Outcome.TheVariants.{Value}
use Rattle.frames.specs.Behaviour.{Behaviour}
use Rattle.frames.specs.Configuration.{fits_step}
use Rattle.frames.specs.Recorded.{AllFit, configuration_after}
use Rattle.layers.specs.Ended.{ended_in}
use Rattle.layers.specs.Nested.{layered}
use Rattle.unary_number.specs.declared.task.UnaryTask.{UnaryTask}
use Rattle.unary_number.specs.declared.task.UnaryTask.TheVariants.{Setting, Clearing, Looking}
use Rattle.unary_number.specs.Program.{unary_table}

-- an operation on a bit, asked for by this task and with this outcome, isn't a read that gets 0
-- from the last bit
abbrev pub NoZeroFromLastBit : ℕ → UnaryTask → Outcome → Type 0
NoZeroFromLastBit values (Looking who i left) outcome = i + 1 ≡ values → outcome ≢ Value 0
NoZeroFromLastBit values (Setting x) outcome = ⊤
NoZeroFromLastBit values (Clearing x i) outcome = ⊤

-- from any initial value, and after any list of steps that fit the unary number: in one more
-- fitting step, no read of the last bit ends with the value 0
abbrev pub AlwaysFindsOne : {P : Type 0} → ℕ → ℕ → Behaviour P → Type 0
AlwaysFindsOne values processes b =
    let t = unary_table values processes in
    (value : ℕ) (steps : List Step) (s : Step) → value < values → AllFit (layered t b) steps → fits_step (layered t b) s ≡ true
    → All (λ e. NoZeroFromLastBit values e.task e.outcome) (ended_in t b (configuration_after (layered t b) value steps) s)
