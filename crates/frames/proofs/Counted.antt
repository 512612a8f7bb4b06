-- A count of a history: its writes so far, and the numbers given to its returned reads.
use Rattle.std.specs.Prelude.{◌≡◌, ⊤, ℕ, ◌+◌, ◌≤◌, Bool, true, false, Option, Some, None}
use Rattle.schedule_steps.specs.declared.types.Op.TheVariants.{Read, Write}
use Rattle.frames.specs.declared.types.Event.{Event}
use Rattle.frames.specs.declared.types.Event.TheVariants.{Invoke, Got, Wrote}
use Rattle.frames.specs.declared.types.StepEvents.{StepEvents}
use Rattle.frames.proofs.Seen.{refuses}
use Rattle.frames.proofs.Pointwise.{put}

-- Accepted writes are numbered from 1 on; the initial value has 0; `value` gives each one's value.
-- `begun` is the number of the last write invoked, `done` of the last returned, `low` of the last
-- returned when the reader's read was invoked; `floor` is the number of the last returned read.
pub record Counted : Type 0 where
  pub value : ℕ → ℕ
  pub begun : ℕ
  pub done : ℕ
  pub low : ℕ
  pub floor : ℕ

-- the count before the first event, if the initial value is v
abbrev pub uncounted : ℕ → Counted
uncounted v = record { value = λ n. v; begun = 0; done = 0; low = 0; floor = 0 }

-- the event, if there is one, takes the count from c to z
abbrev pub TakesCount : Option Event → Counted → Counted → Type 0
TakesCount None c z = z ≡ c
TakesCount (Some (Invoke p (Write v))) c z = z ≡ record c { value = put (c.begun + 1) v c.value; begun = c.begun + 1 }
TakesCount (Some (Invoke p Read)) c z = z ≡ record c { low = c.done }
TakesCount (Some (Wrote p)) c z = z ≡ record c { done = c.begun }
-- a returned read gets a number n of its value x, at most `begun`, and at least `low` and `floor`
TakesCount (Some (Got p x)) c z = (n : ℕ) × ((c.value n ≡ x) × ((c.low ≤ n) × ((n ≤ c.begun) × ((c.floor ≤ n) × (z ≡ record c { floor = n })))))
TakesCount _ c z = z ≡ c

-- there is an event, and it is an invocation
abbrev pub IsInvocation : Option Event → Type 0
IsInvocation (Some (Invoke p o)) = ⊤
IsInvocation _ = ⊥

-- The Bool says whether the step ends in a refusal. An operation may be refused only in the step
-- that invokes it; it then counts for nothing.
abbrev pub NumberedIf : Bool → Counted → StepEvents → Counted → Type 0
NumberedIf true c e z = IsInvocation e.first × (z ≡ c)
NumberedIf false c e z = (mid : Counted) × (TakesCount e.first c mid × TakesCount e.second mid z)

-- the step takes the count from c to z
abbrev pub NumberedStep : Counted → StepEvents → Counted → Type 0
NumberedStep c e z = (refuses e.first ≡ false) × NumberedIf (refuses e.second) c e z
