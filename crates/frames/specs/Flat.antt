-- Pending operations as stacks of frames: a layer's own frame, then the frames of the operation
-- that the layer has pending on one of the registers that it uses.
use Rattle.std.specs.Prelude.{◌≡◌, ◌≢◌, ℕ, ◌+◌, List, [], ◌∷◌, ◌++◌, drop, Option, Some, None, MatchOption, ⊤}
use Rattle.std.specs.Option.{option_map}
use Rattle.safe_bit.specs.declared.Place.{Place}
use Rattle.safe_bit.specs.Memory.{Memory}
use Rattle.safe_bit.specs.Parts.{with_part}
use Rattle.schedule_steps.specs.declared.types.Op.{Op}
use Rattle.frames.specs.declared.types.Outcome.{Outcome}
use Rattle.frames.specs.declared.types.Next.{Next}
use Rattle.frames.specs.declared.types.Next.TheVariants.{Pending, Done}
use Rattle.frames.specs.declared.types.Event.{Event}
use Rattle.frames.specs.declared.types.Frame.{Frame}
use Rattle.frames.specs.declared.running.Running.{Running}
use Rattle.frames.specs.declared.types.StepEvents.{StepEvents}
use Rattle.frames.specs.Behaviour.{Behaviour, Answers, ReachedOrAnswered}
use Rattle.frames.specs.Configuration.{Acted, end_event}

-- the outcome of an operation; `None` if it hasn't ended
abbrev pub outcome_of : {P : Type 0} → Next P → Option Outcome
outcome_of (Pending p) = None
outcome_of (Done o) = Some o

-- the event that records that process `who`'s operation ends with this outcome, if it has one;
-- `None` if the operation hasn't ended
abbrev pub end_of : ℕ → Option Outcome → Option Event
end_of who None = None
end_of who (Some outcome) = Some (end_event who outcome)

-- the frames of an operation; no frames if it has ended
abbrev pub left_frames : {P : Type 0} → (P → List Frame) → Next P → List Frame
left_frames frames (Pending p) = frames p
left_frames frames (Done o) = []

-- the operation of the outermost frame; `None` if there are no frames
abbrev pub outermost : List Frame → Option Op
outermost [] = None
outermost (frame ∷ rest) = Some frame.op

-- After a step, an operation of a register at place `at` is in state `next`. `given` is its
-- outcome, or `None` if it hasn't ended. The stack `left` is `front`, followed by the operation's
-- frames (none if it has ended). The memory `after` is `before` with the register's own part
-- replaced by `inner`.
pub record Lands {P : Type 0} (frames : P → List Frame) (at : Place) (next : Next P) (inner : Memory) (front : List Frame) (before : Memory) (given : Option Outcome) (left : List Frame) (after : Memory) : Type 0 where
  pub answer : given ≡ outcome_of next
  pub stack : left ≡ front ++ left_frames frames next
  pub memory : after ≡ with_part at inner before

-- After a step, an operation of a register that has a store and a stack to itself is in state
-- `next`. `given` is its outcome, or `None` if it hasn't ended. The stack `left` has just the
-- operation's frames (none if it has ended), and the memory `after` is `inner`.
pub record LandsAlone {P : Type 0} (frames : P → List Frame) (next : Next P) (inner : Memory) (given : Option Outcome) (left : List Frame) (after : Memory) : Type 0 where
  pub answer : given ≡ outcome_of next
  pub stack : left ≡ left_frames frames next
  pub memory : after ≡ inner

-- process `who` can reach point p in operation o, and the frames of `stack` from index `first` on
-- are just the frames of an operation at p
pub record HasFramesFrom {P : Type 0} (frames : P → List Frame) (Reaches : ℕ → Op → P → Type 0) (who first : ℕ) (stack : List Frame) (o : Op) (p : P) : Type 0 where
  pub reached : Reaches who o p
  pub there : drop first stack ≡ frames p

-- Process `who`'s operation o is in state `next`: pending at a point that the process can reach in
-- o, or ended with an outcome that suits o. `given` is that outcome, or `None` if o hasn't ended;
-- and `stack` has just the operation's frames (none if it has ended).
pub record HasReached {P : Type 0} (b : Behaviour P) (Reaches : ℕ → Op → P → Type 0) (who : ℕ) (o : Op) (given : Option Outcome) (stack : List Frame) (next : Next P) : Type 0 where
  pub may_be_at : ReachedOrAnswered (Reaches who o) (Answers b.values o) next
  pub answer : given ≡ outcome_of next
  pub there : stack ≡ left_frames b.frames next

-- the last argument is a point that process `who` can reach in some operation, and whose frames are
-- `stack`; or it is `None`, and there is no such point
abbrev pub IsPointByFrames : {P : Type 0} → (P → List Frame) → (ℕ → Op → P → Type 0) → ℕ → List Frame → Option P → Type 0
IsPointByFrames frames Reaches who stack (Some p) = (o : Op) × (Reaches who o p × (stack ≡ frames p))
IsPointByFrames {P} frames Reaches who stack None = (o : Op) (p : P) → Reaches who o p → stack ≢ frames p

-- The frames of a pending operation determine the operation and its point: the outermost frame has
-- the operation, and `find` gives the point from the frames. From no frames `find` gives `None`.
pub record FramesGivePoint {P : Type 0} (b : Behaviour P) (Reaches : ℕ → Op → P → Type 0) (find : ℕ → List Frame → Option P) : Type 0 where
  pub point : (who : ℕ) (o : Op) (p : P) → Reaches who o p → find who (b.frames p) ≡ Some p
  pub op : (who : ℕ) (o : Op) (p : P) → Reaches who o p → outermost (b.frames p) ≡ Some o
  pub none : (who : ℕ) → find who [] ≡ None

-- the pending operation that a process's frames describe: the operation of the outermost frame, at
-- the point that `point` gives; `None` if there are no frames, or `point` gives none
abbrev pub running_of : {P : Type 0} → (List Frame → Option P) → List Frame → Option (Running P)
running_of point [] = None
running_of point (frame ∷ rest) = option_map (λ p. record { op = frame.op; point = p }) (point (frame ∷ rest))

-- for each of these stacks, the pending operation that it describes, or `None`; the first stack is
-- that of process `who`, the second that of the next process, and so on
abbrev pub running_from : {P : Type 0} → (ℕ → List Frame → Option P) → ℕ → List (List Frame) → List (Option (Running P))
running_from point who [] = []
running_from point who (stack ∷ stacks) = running_of (point who) stack ∷ running_from point (who + 1) stacks

-- the operation that process `who` has pending, if any, is at a point that `who` can reach in it
abbrev pub IsReached : {P : Type 0} → (ℕ → Op → P → Type 0) → ℕ → Option (Running P) → Type 0
IsReached Reaches who slot = MatchOption slot ⊤ (λ r. Reaches who r.op r.point)

-- the frames of a pending operation; no frames if the process is idle
abbrev pub stack_of : {P : Type 0} → Behaviour P → Option (Running P) → List Frame
stack_of b None = []
stack_of b (Some r) = b.frames r.point

-- A step has the effect `done` and records the events `reported`. After the step, `left` has just
-- the frames of its process's pending operation (none if the process is idle), and `after` is the
-- memory.
pub record HasStackEffect {P : Type 0} (b : Behaviour P) (done : Acted P) (reported : StepEvents) (left : List Frame) (after : Memory) : Type 0 where
  pub events : reported ≡ done.events
  pub stack : left ≡ stack_of b done.running
  pub memory : after ≡ done.memory
