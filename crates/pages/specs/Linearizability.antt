-- Linearizable registers, which many processes can write and read (Herlihy and Wing,
-- "Linearizability: A Correctness Condition for Concurrent Objects", 1990).
--
-- The events of a history are numbered from 0. An operation has the number of the event that
-- invokes it.
use Rattle.std.specs.Prelude.{◌≡◌, ℕ, zero, suc, ◌<◌, ◌≤◌, Bool, true, false, List, [], ◌∷◌, Option, Some, None, ◌⊎◌}
use Rattle.frames.specs.declared.types.Op.{Op}
use Rattle.frames.specs.declared.types.Op.TheVariants as op
use Rattle.frames.specs.declared.types.Layer.{Layer}
use Rattle.frames.specs.declared.types.Event.{Event}
use Rattle.frames.specs.declared.types.Event.TheVariants.{Invoke, Got, Wrote, Refused}
use Rattle.frames.specs.declared.types.Step.{Step}
use Rattle.frames.specs.Behaviour.{Behaviour}
use Rattle.frames.specs.Recorded.{AllFit, recorded}
use Rattle.pages.specs.VerdictWords.{begins_or_ends}

-- event number n of a history, if there is one
abbrev pub event_at : List (ℕ × Event) → ℕ → Option Event
event_at [] n = None
event_at (e ∷ es) zero = Some e.1
event_at (e ∷ es) (suc n) = event_at es n

-- an operation of a history: event number `number` invokes it
pub record Operation (history : List (ℕ × Event)) : Type 0 where
  pub number : ℕ
  pub process : ℕ
  pub op : Op
  pub invoked : event_at history number ≡ Some (Invoke process op)

-- the operation `a` ends in event number n, which is `end`: the first event after its invocation by
-- which its process begins or ends an operation
pub record EndsAt {history : List (ℕ × Event)} (a : Operation history) (n : ℕ) (end : Event) : Type 0 where
  pub later : a.number < n
  pub there : event_at history n ≡ Some end
  pub own : begins_or_ends a.process end ≡ true
  pub first : (k : ℕ) (other : Event) → a.number < k → k < n → event_at history k ≡ Some other → begins_or_ends a.process other ≡ false

-- whether an event that ends an operation is its return, and no refusal
abbrev pub is_return : Op → Event → Bool
is_return (op.Write v) (Wrote p) = true
is_return op.Read (Got p v) = true
is_return o e = false

-- an order of operations, by their numbers: whether each is in it, and its place
pub record Order : Type 0 where
  pub has : ℕ → Bool
  pub place : ℕ → ℕ

-- in the order, the operation `a` is a write of v before place n
pub record IsWriteBefore {history : List (ℕ × Event)} (order : Order) (n v : ℕ) (a : Operation history) : Type 0 where
  pub writes : a.op ≡ op.Write v
  pub in_it : order.has a.number ≡ true
  pub before : order.place a.number < n

-- in the order, the last write before place n is one of v
pub record IsLastWrite (history : List (ℕ × Event)) (order : Order) (n v : ℕ) : Type 0 where
  pub write : Operation history
  pub is_before : IsWriteBefore order n v write
  pub last : (other : Operation history) (u : ℕ) → IsWriteBefore order n u other → order.place other.number ≤ order.place write.number

-- v is the value of the last write before place n, or the initial value if there is none
abbrev pub IsValueAt : ℕ → List (ℕ × Event) → Order → ℕ → ℕ → Type 0
IsValueAt initial history order n v =
    IsLastWrite history order n v ⊎ (((other : Operation history) (u : ℕ) → ¬ IsWriteBefore order n u other) × (v ≡ initial))

-- The returned operations and some of the pending writes can be put in one order, such that an
-- operation that returned before another was invoked comes before it, and each read gives the value
-- of the last write before it, or the initial value if there is none. Refused operations aren't in
-- the order, nor are reads that haven't returned. No two operations have the same place.
pub record HasLinearization (initial : ℕ) (history : List (ℕ × Event)) : Type 0 where
  pub order : Order
  pub returned : (a : Operation history) (n : ℕ) (end : Event) → EndsAt a n end → is_return a.op end ≡ true → order.has a.number ≡ true
  pub refused : (a : Operation history) (n : ℕ) (layer : Layer) → EndsAt a n (Refused a.process layer) → order.has a.number ≡ false
  pub unreturned : (a : Operation history) → a.op ≡ op.Read → ((n v : ℕ) → ¬ EndsAt a n (Got a.process v)) → order.has a.number ≡ false
  pub one_each : (a b : Operation history) → order.has a.number ≡ true → order.has b.number ≡ true → order.place a.number ≡ order.place b.number → a.number ≡ b.number
  pub in_time : (a b : Operation history) (n : ℕ) (end : Event) → EndsAt a n end → is_return a.op end ≡ true → n < b.number → order.has b.number ≡ true → order.place a.number < order.place b.number
  pub reads : (a : Operation history) (n v : ℕ) → a.op ≡ op.Read → EndsAt a n (Got a.process v) → IsValueAt initial history order (order.place a.number) v

-- on every list of fitting steps, from every initial value, what the register records has a
-- linearization
abbrev pub IsLinearizable : {P : Type 0} → Behaviour P → Type 0
IsLinearizable b = (value : ℕ) (steps : List Step) → value < b.values → AllFit b steps → HasLinearization value (recorded b value steps)
