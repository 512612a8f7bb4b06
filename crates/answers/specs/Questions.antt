-- Questions: the schedules of what is asked, the answers that they have, and whether a question
-- fits a register.
use Rattle.std.specs.Prelude.{◌≡◌, ℕ, ◌+◌, ◌<◌, ◌≤◌, ◌==◌, ◌&&◌, ◌||◌, not, nat_lt, Bool, true, ⊤, ◌⊎◌, List, [], ◌∷◌, ◌++◌, Option, None, Some, length, slice_get, slice_index_or, if◌then◌else◌}
use Rattle.std.specs.Global.{Vec}
use Rattle.std.specs.List.{list_all, list_any}
use Rattle.std.specs.Option.{option_to_list}
use Rattle.frames.specs.declared.types.Op.{Op}
use Rattle.frames.specs.declared.types.Outcome.{Outcome}
use Rattle.frames.specs.declared.types.Outcome.TheVariants.{Value, Written, Spent}
use Rattle.frames.specs.declared.types.Event.{Event}
use Rattle.frames.specs.declared.types.Event.TheVariants.{Invoke, Got, Wrote, Refused, Stop}
use Rattle.frames.specs.declared.types.StepEvents.{StepEvents}
use Rattle.frames.specs.declared.types.Step.{Step}
use Rattle.frames.specs.Behaviour.{Behaviour}
use Rattle.frames.specs.Configuration.{running_at, is_stopped, history}
use Rattle.frames.specs.Recorded.{AllFit, first_configuration, configuration_after}
use Rattle.answers.specs.declared.question.After.{After}
use Rattle.answers.specs.declared.question.NthOp.{NthOp}
use Rattle.answers.specs.declared.question.Question.{Question}

-- the events of one step, in order
abbrev pub events_in : StepEvents → List Event
events_in events = option_to_list events.first ++ option_to_list events.second

-- the events of a history, in order
abbrev pub all_events : List StepEvents → List Event
all_events [] = []
all_events (events ∷ later) = events_in events ++ all_events later

-- the events of these steps, in order, if the register's initial value is `value`
abbrev pub events_after : {P : Type 0} → Behaviour P → ℕ → List Step → List Event
events_after b value steps = all_events (history b (first_configuration b value) steps)

-- the outcome of process p's operation that ends in this event, as a list of one item; an empty
-- list if none ends
abbrev pub outcomes_in : ℕ → Event → List Outcome
outcomes_in p (Got q v) = if q == p then Value v ∷ [] else []
outcomes_in p (Wrote q) = if q == p then Written ∷ [] else []
outcomes_in p (Refused q layer) = if q == p then Spent layer ∷ [] else []
outcomes_in p _ = []

-- the outcomes of process p's operations that end in these events, in order
abbrev pub outcomes_by : ℕ → List Event → List Outcome
outcomes_by p [] = []
outcomes_by p (e ∷ es) = outcomes_in p e ++ outcomes_by p es

-- the operations in a list, if there is a list
abbrev pub operations_in : Option (Vec Op) → List Op
operations_in None = []
operations_in (Some list) = list.items

-- the operations that process p makes, in order
abbrev pub operations_of : Question → ℕ → List Op
operations_of q p = operations_in (slice_get q.operations.items p)

-- Whether `a` lets process p invoke its next operation, if each process r has ended `ended r` of
-- its operations: if that is the later operation of `a`, the earlier one has ended.
abbrev pub allows : (ℕ → ℕ) → ℕ → After → Bool
allows ended p a = not (a.later.process == p && a.later.index == ended p) || nat_lt a.earlier.index (ended a.earlier.process)

-- the operation that process p may invoke if it is idle, and each process r has ended `ended r` of
-- its operations; `None` if p has ended all, or its next one has to follow one that hasn't ended
abbrev pub next_of : Question → (ℕ → ℕ) → ℕ → Option Op
next_of q ended p = if list_all (allows ended p) q.after.items then slice_get (operations_of q p) (ended p) else None

-- whether process p may stop
abbrev pub process_may_stop : Question → ℕ → Bool
process_may_stop q p = list_any (λ r. p == r) q.may_stop.items

-- After the events `before`, an event is allowed. An invocation has to be that of the process's
-- next operation, and only some processes may stop.
abbrev pub IsAllowed : Question → List Event → Event → Type 0
IsAllowed q before (Invoke p o) = next_of q (λ r. length (outcomes_by r before)) p ≡ Some o
IsAllowed q before (Stop p) = process_may_stop q p ≡ true
IsAllowed q before _ = ⊤

-- each of these events is allowed after `before` and the ones that precede it
abbrev pub AreAllowed : Question → List Event → List Event → Type 0
AreAllowed q before [] = ⊤
AreAllowed q before (e ∷ later) = IsAllowed q before e × AreAllowed q (before ++ e ∷ []) later

-- Process p has stopped, or it is idle and all its operations have ended.
abbrev pub IsThrough : {P : Type 0} → Behaviour P → Question → List Step → ℕ → Type 0
IsThrough b q steps p =
    (is_stopped p (configuration_after b q.value steps) ≡ true)
    ⊎ ((running_at p (configuration_after b q.value steps) ≡ None)
    × (length (outcomes_by p (events_after b q.value steps)) ≡ length (operations_of q p)))

-- A schedule of what is asked: fitting steps, in which each process invokes just its operations, in
-- order, and each after those that it has to follow; only processes that may stop do; and in the
-- end each process that hasn't stopped has ended all its operations. Void steps may be among the
-- steps.
pub record IsScheduleOf {P : Type 0} (b : Behaviour P) (q : Question) (steps : List Step) : Type 0 where
  pub fit : AllFit b steps
  pub allowed : AreAllowed q [] (events_after b q.value steps)
  pub through : (p : ℕ) → p < b.processes → IsThrough b q steps p

-- the lists in `answers` are the outcomes of the operations that each process ends in these steps
pub record HasAnswers {P : Type 0} (b : Behaviour P) (value : ℕ) (steps : List Step) (answers : List (List Outcome)) : Type 0 where
  pub for_each : length answers ≡ b.processes
  pub in_order : (p : ℕ) → slice_index_or answers p [] ≡ outcomes_by p (events_after b value steps)

-- whether the question has this operation
abbrev pub is_asked : Question → NthOp → Bool
is_asked q n = nat_lt n.index (length (operations_of q n.process))

-- whether the question has both operations that `a` names
abbrev pub are_asked : Question → After → Bool
are_asked q a = is_asked q a.later && is_asked q a.earlier

-- The operations a question has are the register's: its initial value is one of the register's
-- values, there are no more lists than processes, each operation fits its process, and `after`
-- names operations that are asked.
pub record AreOperationsOf {P : Type 0} (b : Behaviour P) (q : Question) : Type 0 where
  pub value : q.value < b.values
  pub lists : length q.operations.items ≤ b.processes
  pub suit : (p : ℕ) → list_all (b.suits p) (operations_of q p) ≡ true
  pub named : list_all (are_asked q) q.after.items ≡ true

-- No operation has to follow itself: operations have ranks, greater ones after smaller ones. Each
-- operation's rank is greater than that of the same process's operation before it, and than those
-- of the operations that it has to follow.
pub record IsAcyclic (q : Question) : Type 0 where
  pub rank : ℕ → ℕ → ℕ
  pub in_order : (p i : ℕ) → i + 1 < length (operations_of q p) → rank p i < rank p (i + 1)
  pub follows : (k : ℕ) (a : After) → slice_get q.after.items k ≡ Some a → rank a.earlier.process a.earlier.index < rank a.later.process a.later.index

-- A question fits a register: its operations are the register's, and none has to follow itself.
pub record FitsQuestion {P : Type 0} (b : Behaviour P) (q : Question) : Type 0 where
  pub well_formed : AreOperationsOf b q
  pub acyclic : IsAcyclic q
