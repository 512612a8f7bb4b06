-- Two registers of one kind in one memory, the second right after the first, for tests.
use Rattle.std.specs.Prelude.{ℕ, List, Option, MatchOption, ⊤}
use Rattle.safe_bit.specs.Memory.{Memory}
use Rattle.safe_bit.specs.Parts.{LiesIn, part, origin}
use Rattle.frames.specs.declared.types.Op.{Op}
use Rattle.frames.specs.declared.types.Outcome.{Outcome}
use Rattle.frames.specs.declared.types.Frame.{Frame}
use Rattle.frames.specs.Behaviour.{Behaviour}
use Rattle.frames.specs.Flat.{HasFramesFrom}

-- both registers, and the memory in which they lie
pub record Neighbours (R : Type 0) : Type 0 where
  pub register : R
  pub memory : Memory

-- each register lies in the memory, and `Holds` is true of its part of the memory
pub record AreNeighbours {P : Type 0} (b : Behaviour P) (Holds : Memory → Type 0) (m : Memory) : Type 0 where
  pub first_lies : LiesIn origin b.size m
  pub second_lies : LiesIn b.size b.size m
  pub first : Holds (part origin b.size m)
  pub second : Holds (part b.size b.size m)

-- a process has an operation pending, and the stack has the operation's frames
abbrev pub IsPending : {P : Type 0} → Behaviour P → (ℕ → Op → P → Type 0) → ℕ → List Frame → Type 0
IsPending {P} b Reaches who stack = (o : Op) × ((p : P) × HasFramesFrom b.frames Reaches who 0 stack o p)

-- as `IsPending`, unless the operation has ended with an outcome
abbrev pub IsPendingUnlessEnded : {P : Type 0} → Behaviour P → (ℕ → Op → P → Type 0) → ℕ → List Frame → Option Outcome → Type 0
IsPendingUnlessEnded b Reaches who stack end = MatchOption end (IsPending b Reaches who stack) (λ _. ⊤)
