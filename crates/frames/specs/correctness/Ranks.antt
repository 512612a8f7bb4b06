-- Atomic registers that many processes write and read: linearizable ones (Herlihy and Wing,
-- "Linearizability: A Correctness Condition for Concurrent Objects", 1990), defined by the events
-- that a register alone records.
--
-- Each operation that takes effect has a rank, which is a number. In the order of linearization
-- ranks don't fall: each write has a rank of its own, and a read has the rank of the write whose
-- value it gives, which it follows. A refused operation takes no effect.
use Rattle.std.specs.Prelude.{◌≡◌, ℕ, ◌<◌, ◌≤◌, ◌==◌, max, ⊤, List, [], ◌∷◌, Option, Some, None, if◌then◌else◌}
use Rattle.schedule_steps.specs.declared.types.Op.TheVariants.{Read, Write}
use Rattle.frames.specs.declared.types.Event.{Event}
use Rattle.frames.specs.declared.types.Event.TheVariants.{Invoke, Got, Wrote, Refused}
use Rattle.schedule_steps.specs.declared.types.Step.{Step}
use Rattle.frames.specs.Behaviour.{Behaviour}
use Rattle.frames.specs.Recorded.{AllFit, recorded}

-- the function f with its value at i changed to x
abbrev pub put : {A : Type 0} → ℕ → A → (ℕ → A) → ℕ → A
put i x f k = if k == i then x else f k

-- What is known of the ranks after a prefix of a history. `top` is the greatest rank of an
-- operation that has returned, at first that of the initial value. `values` gives the value of the
-- write with a rank, if one has been invoked. `floor` is, for each process, what `top` was when the
-- process invoked its last operation. `mine` is the rank of the write that a process is in, if it
-- is in one that takes effect.
pub record Ranking : Type 0 where
  pub top : ℕ
  pub values : ℕ → Option ℕ
  pub floor : ℕ → ℕ
  pub mine : ℕ → Option ℕ

-- what is known before the first event, if the initial value is `value` and has the rank `first`
abbrev pub at_first : ℕ → ℕ → Ranking
at_first first value = record {
  top = first;
  values = put first (Some value) (λ n. None);
  floor = λ p. first;
  mine = λ p. None;
}

-- The operation that is invoked in this event, or returns in it, may have this rank, if any.
-- A write that takes effect: a rank of its own, above those of all operations that had returned
-- when it was invoked. A returned read: the rank of a write of its value that was invoked before
-- the read returned, or of the initial value; and no operation that had returned when the read was
-- invoked has a greater one. A returned write has taken effect, and a refused one hasn't.
abbrev pub HasRank : Ranking → Event → Option ℕ → Type 0
HasRank r (Invoke p (Write v)) (Some n) = (r.top < n) × (r.values n ≡ None)
HasRank r (Invoke p (Write v)) None = ⊤
HasRank r (Got p v) (Some n) = (r.floor p ≤ n) × (r.values n ≡ Some v)
HasRank r (Got p v) None = ⊥
HasRank r (Wrote p) (Some n) = r.mine p ≡ Some n
HasRank r (Wrote p) None = ⊥
HasRank r (Refused p layer) n = r.mine p ≡ None
HasRank r _ n = ⊤

-- what is known after an event in which an operation of this rank, if any, is invoked or returns
abbrev pub after_rank : Ranking → Event → Option ℕ → Ranking
after_rank r (Invoke p (Write v)) (Some n) =
    record r { values = put n (Some v) r.values; floor = put p r.top r.floor; mine = put p (Some n) r.mine }
after_rank r (Invoke p (Write v)) None =
    record r { floor = put p r.top r.floor; mine = put p None r.mine }
after_rank r (Invoke p Read) n = record r { floor = put p r.top r.floor; mine = put p None r.mine }
after_rank r (Got p v) (Some n) = record r { top = max r.top n }
after_rank r (Wrote p) (Some n) = record r { top = max r.top n; mine = put p None r.mine }
after_rank r _ n = r

-- The operations of these events can be given ranks, event by event; r is what is known before the
-- events.
abbrev pub Ranked : Ranking → List (ℕ × Event) → Type 0
Ranked r [] = ⊤
Ranked r (e ∷ es) = (n : Option ℕ) × (HasRank r e.1 n × Ranked (after_rank r e.1 n) es)

-- The operations of a whole history can be given ranks, and so can the initial value.
abbrev pub HasRanks : ℕ → List (ℕ × Event) → Type 0
HasRanks value events = (first : ℕ) × Ranked (at_first first value) events

-- Atomic for many processes: on every list of fitting steps, from every initial value, the
-- operations that take effect can be given ranks. Every returned operation takes effect, and so may
-- a pending write; a refused operation doesn't.
abbrev pub IsAtomicForMany : {P : Type 0} → Behaviour P → Type 0
IsAtomicForMany b = (value : ℕ) (steps : List Step) → value < b.values → AllFit b steps → HasRanks value (recorded b value steps)
