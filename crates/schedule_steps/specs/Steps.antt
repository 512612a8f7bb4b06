-- Steps of a schedule.
use Rattle.std.specs.Prelude.{ℕ}
use Rattle.schedule_steps.specs.declared.types.Op.{Op}
use Rattle.schedule_steps.specs.declared.types.Op.TheVariants as op
use Rattle.schedule_steps.specs.declared.types.Step.{Step}
use Rattle.schedule_steps.specs.declared.types.Step.TheVariants as step

-- the process that makes a step
abbrev pub process_of : Step → ℕ
process_of (step.Write p v) = p
process_of (step.Read p) = p
process_of (step.Go p c) = p
process_of (step.Stop p) = p

-- the step by which process p invokes an operation
abbrev pub invoking_step : ℕ → Op → Step
invoking_step p (op.Write v) = step.Write p v
invoking_step p op.Read = step.Read p
