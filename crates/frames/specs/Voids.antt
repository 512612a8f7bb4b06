-- Steps that change nothing, and processes that have stopped.
use Rattle.std.specs.Prelude.{◌≡◌, ℕ, true, Some, None, if◌then◌else◌}
use Rattle.schedule_steps.specs.declared.types.Step.{Step}
use Rattle.schedule_steps.specs.declared.types.Step.TheVariants as step
use Rattle.frames.specs.declared.types.Reason.{Reason}
use Rattle.frames.specs.declared.types.Reason.TheVariants.{Busy, Idle, Stopped}
use Rattle.frames.specs.declared.types.Event.TheVariants.{Void}
use Rattle.frames.specs.Behaviour.{Behaviour}
use Rattle.schedule_steps.specs.Steps.{process_of}
use Rattle.frames.specs.Configuration.{Configuration, running_at, is_stopped, stepped, events_of, in_order}

-- why a step isn't enabled though its process hasn't stopped: for an invocation the process is
-- busy, and for a bit action it is idle (a stop of such a process is enabled)
abbrev pub why_unready : Step → Reason
why_unready (step.Write p v) = Busy
why_unready (step.Read p) = Busy
why_unready (step.Go p choice) = Idle
why_unready (step.Stop p) = Stopped

-- why step s isn't enabled in configuration c: Stopped if its process has stopped; otherwise Busy
-- if s is an invocation, and Idle if it is a bit action
abbrev pub why_void : {R P : Type 0} → Configuration R P → Step → Reason
why_void c s = if is_stopped (process_of s) c then Stopped else why_unready s

-- step s is void in configuration c: it changes nothing, and its one event is a `Void` of its
-- process, with the reason that `why_void` gives
pub record IsVoid {R P : Type 0} (b : Behaviour P) (c : Configuration R P) (s : Step) : Type 0 where
  pub leaves : stepped b c s ≡ c
  pub reported : events_of b c s ≡ in_order (Some (Void (process_of s) (why_void c s))) None

-- process p is stopped in configuration `after`, and has the same operation pending as in `before`,
-- or none in both
pub record StaysStopped {R P : Type 0} (p : ℕ) (before after : Configuration R P) : Type 0 where
  pub stopped : is_stopped p after ≡ true
  pub pending : running_at p after ≡ running_at p before
