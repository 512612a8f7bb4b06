-- How the events of steps are stored: a mark for each step, and a list of the events that the marks
-- don't determine.
use Rattle.std.specs.Prelude.{◌≡◌, List, [], ◌∷◌, ◌++◌, Option, Some, None}
use Rattle.frames.specs.declared.types.Event.{Event}
use Rattle.frames.specs.declared.types.Event.TheVariants as event
use Rattle.frames.specs.declared.types.Op.TheVariants as op
use Rattle.frames.specs.declared.types.Reason.TheVariants as reason
use Rattle.frames.specs.declared.types.Step.{Step}
use Rattle.frames.specs.declared.types.Step.TheVariants as step
use Rattle.frames.specs.declared.types.StepEvents.{StepEvents}
use Rattle.frames.specs.Steps.{process_of}
use Rattle.checkpoints.specs.declared.mark.Mark.{Mark}
use Rattle.checkpoints.specs.declared.mark.Mark.TheVariants.{Nothing, First, Second, Both, Invoked, Wrote, Busy, Idle, Stopped, GotZero, GotOne}
use Rattle.checkpoints.specs.declared.events.MarkedSteps.{MarkedSteps}
use Rattle.checkpoints.specs.StoredEvents.{stored_events}

-- if the step invokes an operation, the event of this invocation; `None` for other steps
abbrev pub invocation : Step → Option Event
invocation (step.Write p v) = Some (event.Invoke p (op.Write v))
invocation (step.Read p) = Some (event.Invoke p op.Read)
invocation (step.Go p c) = None
invocation (step.Stop p) = None

-- the event that a step and its mark determine, if they determine one
abbrev pub implied_event : Step → Mark → Option Event
implied_event s Nothing = None
implied_event s First = None
implied_event s Second = None
implied_event s Both = None
implied_event s Invoked = invocation s
implied_event s Wrote = Some (event.Wrote (process_of s))
implied_event s Busy = Some (event.Void (process_of s) reason.Busy)
implied_event s Idle = Some (event.Void (process_of s) reason.Idle)
implied_event s Stopped = Some (event.Void (process_of s) reason.Stopped)
implied_event s GotZero = Some (event.Got (process_of s) 0)
implied_event s GotOne = Some (event.Got (process_of s) 1)

-- the first of the events that are left; `None` if there are none
abbrev pub next_event : List Event → Option Event
next_event [] = None
next_event (event ∷ events) = Some event

-- the events after the first of those that are left
abbrev pub later_events : List Event → List Event
later_events [] = []
later_events (event ∷ events) = events

-- the events of a step with this mark: the event that step and mark determine, or the next one or
-- two of the stored events, or no event
abbrev pub events_with : Step → Mark → List Event → StepEvents
events_with s First events = record { first = next_event events; second = None }
events_with s Second events = record { first = None; second = next_event events }
events_with s Both events = record { first = next_event events; second = next_event (later_events events) }
events_with s mark events = record { first = implied_event s mark; second = None }

-- the stored events that are left after a step with this mark
abbrev pub left_after : Mark → List Event → List Event
left_after First events = later_events events
left_after Second events = later_events events
left_after Both events = later_events (later_events events)
left_after mark events = events

-- the events of each of these steps, from their marks and the stored events
abbrev pub reported_events : List Step → List Mark → List Event → List StepEvents
reported_events [] marks events = []
reported_events (s ∷ steps) [] events = []
reported_events (s ∷ steps) (mark ∷ marks) events = events_with s mark events ∷ reported_events steps marks (left_after mark events)

-- the events of each of the steps that are stored together in t
abbrev pub reported_in : MarkedSteps → List StepEvents
reported_in t = reported_events t.steps.items t.marks.items (stored_events t.events.items)

-- the step s, with its mark and its stored events `kept`, gives the events `one`: whatever stored
-- events follow `kept`, reading this step's events gives `one`, and leaves all that follow `kept`
abbrev pub ReportsOne : Step → Mark → List Event → StepEvents → Type 0
ReportsOne s mark kept one = (later : List Event) → (events_with s mark (kept ++ later) ≡ one) × (left_after mark (kept ++ later) ≡ later)

-- the events `one` of the step s are recorded: `more` are `marks` followed by the step's mark, and
-- `later` are `events` followed by those of `one` that the mark doesn't determine
pub record IsStepAdded (s : Step) (one : StepEvents) (marks more : List Mark) (events later : List Event) : Type 0 where
  pub mark : Mark
  pub stored : List Event
  pub reports : ReportsOne s mark stored one
  pub marked : more ≡ marks ++ mark ∷ []
  pub added : later ≡ events ++ stored
