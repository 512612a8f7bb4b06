-- The states of a search for answers, and their moves.
use Rattle.std.specs.Prelude.{◌≡◌, ℕ, ◌<◌, ◌==◌, ◌&&◌, ◌/◌, ◌%◌, ◌||◌, Bool, true, false, List, [], ◌++◌, Option, None, Some, length, slice_set, slice_index_or, is_none, replicate, if◌then◌else◌}
use Rattle.std.specs.Option.{option_map}
use Rattle.frames.specs.declared.types.Outcome.{Outcome}
use Rattle.frames.specs.declared.types.Event.{Event}
use Rattle.frames.specs.declared.types.Event.TheVariants.{Chosen}
use Rattle.frames.specs.declared.types.StepEvents.{StepEvents}
use Rattle.frames.specs.declared.types.Step.{Step}
use Rattle.frames.specs.declared.types.Step.TheVariants as step
use Rattle.frames.specs.Behaviour.{Behaviour}
use Rattle.frames.specs.Steps.{process_of, invoking_step}
use Rattle.frames.specs.Configuration.{Configuration, initial_configuration, running_at, is_stopped, fits_step, is_enabled, stepped, events_of}
use Rattle.frames.specs.Recorded.{LoneConfiguration, AllFit, configuration_after, without_register}
use Rattle.answers.specs.declared.question.Question.{Question}
use Rattle.answers.specs.Questions.{outcomes_by, events_in, events_after, next_of, operations_of, process_may_stop, AreAllowed}

-- a configuration, and for each process the outcomes of the operations that it has ended
pub record StateOf (R P : Type 0) : Type 0 where
  pub configuration : Configuration R P
  pub answers : List (List Outcome)

-- the answers with the outcome of process p's operation that ends in these events, if one does
abbrev pub with_events : ℕ → StepEvents → List (List Outcome) → List (List Outcome)
with_events p events answers = slice_set answers p (slice_index_or answers p [] ++ outcomes_by p (events_in events))

-- the state after a step
abbrev pub advanced : {R P : Type 0} → Behaviour P → StateOf R P → Step → StateOf R P
advanced b x s = record {
  configuration = stepped b x.configuration s;
  answers = with_events (process_of s) (events_of b x.configuration s) x.answers;
}

-- the number of operations that each process has ended
abbrev pub ended_counts : List (List Outcome) → ℕ → ℕ
ended_counts answers r = length (slice_index_or answers r [])

-- The step of process p that `kind` names: a bit action with choice 0 or 1, the invocation of its
-- next operation, or a stop. `None` if p may not make it.
abbrev pub step_by : Question → List (List Outcome) → ℕ → ℕ → Option Step
step_by q answers p kind =
    if kind == 0 then Some (step.Go p 0) else
    if kind == 1 then Some (step.Go p 1) else
    if kind == 2 then option_map (invoking_step p) (next_of q (ended_counts answers) p) else
    if process_may_stop q p then Some (step.Stop p) else None

-- whether the event is the choice of a hit read
abbrev pub is_choice_event : Option Event → Bool
is_choice_event (Some (Chosen p bit value)) = true
is_choice_event _ = false

-- whether a step with these events reports a choice, which is then its first event
abbrev pub has_choice : StepEvents → Bool
has_choice events = is_choice_event events.first

-- the state after the step, if there is one that fits and is enabled
abbrev pub moved_if : {R P : Type 0} → Behaviour P → StateOf R P → Option Step → Option (StateOf R P)
moved_if b x None = None
moved_if b x (Some s) = if fits_step b s && is_enabled x.configuration s then Some (advanced b x s) else None

-- the state to which label l leads; the label names process l / 4 and the kind of step l % 4
abbrev pub moved : {R P : Type 0} → Behaviour P → Question → StateOf R P → ℕ → Option (StateOf R P)
moved b q x l = moved_if b x (step_by q x.answers (l / 4) (l % 4))

-- the initial state of a register
abbrev pub first_state : {R P : Type 0} → Behaviour P → ℕ → R → StateOf R P
first_state b value r = record { configuration = initial_configuration b r value; answers = replicate b.processes [] }

-- whether process p has stopped, or is idle and has ended all its operations
abbrev pub is_over : {R P : Type 0} → Question → StateOf R P → ℕ → Bool
is_over q x p = is_stopped p x.configuration || (is_none (running_at p x.configuration) && ended_counts x.answers p == length (operations_of q p))

-- each process has stopped, or is idle and has ended all its operations
abbrev pub AreAllOver : {R P : Type 0} → Behaviour P → Question → StateOf R P → Type 0
AreAllOver b q x = (p : ℕ) → p < b.processes → is_over q x p ≡ true

-- x is the state after these steps; `is` gives the behaviour of a register
pub record IsStateAfter {R P : Type 0} (is : R → Behaviour P) (b : Behaviour P) (value : ℕ) (steps : List Step) (x : StateOf R P) : Type 0 where
  pub behaves : is x.configuration.register ≡ b
  pub shows : without_register x.configuration ≡ configuration_after b value steps
  pub each : length x.answers ≡ b.processes
  pub answered : (p : ℕ) → slice_index_or x.answers p [] ≡ outcomes_by p (events_after b value steps)

-- x is the state after these steps, which fit and which the question allows
pub record IsStateOfRun {R P : Type 0} (is : R → Behaviour P) (b : Behaviour P) (value : ℕ) (q : Question) (steps : List Step) (x : StateOf R P) : Type 0 where
  pub at : IsStateAfter is b value steps x
  pub fit : AllFit b steps
  pub allowed : AreAllowed q [] (events_after b value steps)
