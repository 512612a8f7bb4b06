-- Configurations, one step of a schedule, and replay, which makes the steps of a schedule in order.
use Rattle.std.specs.Prelude.{◌≡◌, ℕ, Bool, true, false, not, ◌&&◌, ◌==◌, List, [], ◌∷◌, Option, Some, None, is_none, is_some, slice_index_or, slice_set, replicate}
use Rattle.safe_bit.specs.Memory.{Memory}
use Rattle.schedule_steps.specs.declared.types.Op.{Op}
use Rattle.schedule_steps.specs.declared.types.Op.TheVariants as op
use Rattle.schedule_steps.specs.declared.types.Step.{Step}
use Rattle.schedule_steps.specs.declared.types.Step.TheVariants as step
use Rattle.frames.specs.declared.types.Outcome.{Outcome}
use Rattle.frames.specs.declared.types.Outcome.TheVariants.{Value, Written, Spent}
use Rattle.frames.specs.declared.types.Next.{Next}
use Rattle.frames.specs.declared.types.Next.TheVariants.{Pending, Done}
use Rattle.frames.specs.declared.types.Reason.TheVariants.{Busy, Idle, Stopped}
use Rattle.frames.specs.declared.types.Event.{Event}
use Rattle.frames.specs.declared.types.Event.TheVariants.{Invoke, Got, Wrote, Refused, Void, Stop, Chosen}
use Rattle.frames.specs.declared.types.StepEvents.{StepEvents}
use Rattle.frames.specs.declared.running.Running.{Running}
use Rattle.frames.specs.Behaviour.{Behaviour}
use Rattle.frames.specs.Fitting.{roles_of, fits_roles}
use Rattle.schedule_steps.specs.Steps.{process_of}

-- a configuration: the register, its cells and words, each process's pending operation, if any, and
-- which processes have stopped
pub record Configuration (R P : Type 0) : Type 0 where
  pub register : R
  pub memory : Memory
  pub running : List (Option (Running P))
  pub stopped : List Bool

-- the pending operation of process p; `None` if p is idle or doesn't exist
abbrev pub running_at : {R P : Type 0} → ℕ → Configuration R P → Option (Running P)
running_at p c = slice_index_or c.running p None

-- whether process p has stopped; false if p doesn't exist
abbrev pub is_stopped : {R P : Type 0} → ℕ → Configuration R P → Bool
is_stopped p c = slice_index_or c.stopped p false

-- the initial configuration: register r holds value v, no operation is pending, and no process has
-- stopped
abbrev pub initial_configuration : {R P : Type 0} → Behaviour P → R → ℕ → Configuration R P
initial_configuration b r v = record { register = r; memory = b.initial v; running = replicate b.processes None; stopped = replicate b.processes false }

-- whether a step fits the register, as `fits_roles` says of the register's roles
abbrev pub fits_step : {P : Type 0} → Behaviour P → Step → Bool
fits_step b s = fits_roles (roles_of b) s

-- the effect of a step: its events, the operation that its process has pending afterwards, if any,
-- and the memory afterwards
pub record Acted (P : Type 0) : Type 0 where
  pub events : StepEvents
  pub running : Option (Running P)
  pub memory : Memory

-- the event that records that process `who`'s operation ends with this outcome
abbrev pub end_event : ℕ → Outcome → Event
end_event who (Value v) = Got who v
end_event who Written = Wrote who
end_event who (Spent layer) = Refused who layer

-- the event that records the return or refusal of process `who`'s operation; `None` if it is still
-- pending
abbrev pub return_of : {P : Type 0} → ℕ → Next P → Option Event
return_of who (Pending p) = None
return_of who (Done outcome) = Some (end_event who outcome)

-- operation o, at the point that it has reached; `None` if it has ended
abbrev pub still_running : {P : Type 0} → Op → Next P → Option (Running P)
still_running o (Pending p) = Some (record { op = o; point = p })
still_running o (Done outcome) = None

-- the event that reports a hit read of a bit and the value that it gave; `None` if no hit read has
-- ended
abbrev pub chosen_of : ℕ → Option (ℕ × Bool) → Option Event
chosen_of who None = None
chosen_of who (Some bit) = Some (Chosen who bit.0 bit.1)

-- the events of a step that records these two, in order; either may be missing
abbrev pub in_order : Option Event → Option Event → StepEvents
in_order (Some e) later = record { first = Some e; second = later }
in_order None later = record { first = later; second = None }

-- The effect of a step after which process `who`'s operation o is in state `next`, and the memory
-- is m. The step records `event`, if there is one; and then the operation's return or refusal, if
-- it has ended.
abbrev pub acted : {P : Type 0} → ℕ → Op → Option Event → Next P → Memory → Acted P
acted who o event next m = record { events = in_order event (return_of who next); running = still_running o next; memory = m }

-- the effect of a step that records one event, and changes neither its process's pending operation,
-- if any, nor the memory
abbrev pub only_records : {P : Type 0} → Event → Option (Running P) → Memory → Acted P
only_records event running m = record { events = in_order (Some event) None; running = running; memory = m }

-- the effect if process `who` invokes operation o; if it has an operation pending already, the step
-- is void
abbrev pub invoking : {P : Type 0} → Behaviour P → ℕ → Op → Option (Running P) → Memory → Acted P
invoking b who o None m = let begun = b.begins who o m in acted who o (Some (Invoke who o)) begun.next begun.memory
invoking b who o (Some r) m = only_records (Void who Busy) (Some r) m

-- the effect if process `who` makes its next bit action; if it has no operation pending, the step
-- is void
abbrev pub going : {P : Type 0} → Behaviour P → ℕ → Bool → Option (Running P) → Memory → Acted P
going b who choice None m = only_records (Void who Idle) None m
going b who choice (Some r) m =
    let moved = b.goes r.point choice m in acted who r.op (chosen_of who moved.chosen) moved.next moved.memory

-- the effect of a step of a process that hasn't stopped; a stop leaves the operation pending
abbrev pub acting : {P : Type 0} → Behaviour P → Step → Option (Running P) → Memory → Acted P
acting b (step.Write p v) running m = invoking b p (op.Write v) running m
acting b (step.Read p) running m = invoking b p op.Read running m
acting b (step.Go p c) running m = going b p (c == 1) running m
acting b (step.Stop p) running m = only_records (Stop p) running m

-- the effect of any step; the Bool says whether its process has stopped: if so, the step is void
abbrev pub acting_unless : {P : Type 0} → Bool → Behaviour P → Step → Option (Running P) → Memory → Acted P
acting_unless true b s running m = only_records (Void (process_of s) Stopped) running m
acting_unless false b s running m = acting b s running m

-- the effect of step s in configuration c
abbrev pub acted_on : {R P : Type 0} → Behaviour P → Configuration R P → Step → Acted P
acted_on b c s = acting_unless (is_stopped (process_of s) c) b s (running_at (process_of s) c) c.memory

-- Whether a step of a process that hasn't stopped is enabled, given the process's pending
-- operation, if any. An invocation needs an idle process, a bit action needs a pending operation,
-- and a stop is always enabled.
abbrev pub is_ready : {P : Type 0} → Step → Option (Running P) → Bool
is_ready (step.Write p v) running = is_none running
is_ready (step.Read p) running = is_none running
is_ready (step.Go p choice) running = is_some running
is_ready (step.Stop p) running = true

-- Whether step s is enabled in configuration c: its process hasn't stopped, and is idle if s is an
-- invocation, or has an operation pending if s is a bit action.
abbrev pub is_enabled : {R P : Type 0} → Configuration R P → Step → Bool
is_enabled c s = not (is_stopped (process_of s) c) && is_ready s (running_at (process_of s) c)

-- the events that step s records in configuration c
abbrev pub events_of : {R P : Type 0} → Behaviour P → Configuration R P → Step → StepEvents
events_of b c s = (acted_on b c s).events

-- configuration c after this effect on process p: the memory and p's pending operation, if any, are
-- those of the effect, and nothing else is changed
abbrev pub put_acted : {R P : Type 0} → ℕ → Acted P → Configuration R P → Configuration R P
put_acted p done c = record c { memory = done.memory; running = slice_set c.running p done.running }

-- A step of process p has the effect `done`: the step records the events `reported`, and `next` is
-- the configuration after the step. c is the configuration before the step, but with the stop marks
-- as they are after the step.
pub record HasStepEffect {R P : Type 0} (p : ℕ) (done : Acted P) (c : Configuration R P) (reported : StepEvents) (next : Configuration R P) : Type 0 where
  pub events : reported ≡ done.events
  pub after : next ≡ put_acted p done c

-- The stop marks after a step; each says whether a process has stopped. A stop marks its process as
-- stopped, and any other step leaves the marks as they were.
abbrev pub marked : Step → List Bool → List Bool
marked (step.Stop p) stopped = slice_set stopped p true
marked _ stopped = stopped

-- configuration c, changed only if step s is a stop: the process of s is then marked as stopped
abbrev pub with_stop_mark : {R P : Type 0} → Step → Configuration R P → Configuration R P
with_stop_mark s c = record c { stopped = marked s c.stopped }

-- the configuration after step s has been made in configuration c
abbrev pub stepped : {R P : Type 0} → Behaviour P → Configuration R P → Step → Configuration R P
stepped b c s = put_acted (process_of s) (acted_on b c s) (with_stop_mark s c)

-- replay: the configuration after all these steps, made one after another from configuration c
abbrev pub replayed : {R P : Type 0} → Behaviour P → Configuration R P → List Step → Configuration R P
replayed b c [] = c
replayed b c (s ∷ steps) = replayed b (stepped b c s) steps

-- the events of a replay of these steps from configuration c: item i has the events of step i
abbrev pub history : {R P : Type 0} → Behaviour P → Configuration R P → List Step → List StepEvents
history b c [] = []
history b c (s ∷ steps) = events_of b c s ∷ history b (stepped b c s) steps
