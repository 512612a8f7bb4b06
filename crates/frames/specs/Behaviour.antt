-- A register's behaviour, on its own cells and words alone, and the laws that every register obeys.
use Rattle.std.specs.Prelude.{◌≡◌, ℕ, ◌<◌, ◌≤◌, Bool, true, false, List, length, Option, None, MatchOption, ⊤}
use Rattle.safe_bit.specs.declared.Place.{Place}
use Rattle.safe_bit.specs.Memory.{Memory}
use Rattle.safe_bit.specs.Parts.{HasSize}
use Rattle.schedule_steps.specs.declared.types.Op.{Op}
use Rattle.schedule_steps.specs.declared.types.Op.TheVariants as op
use Rattle.frames.specs.declared.types.Outcome.{Outcome}
use Rattle.frames.specs.declared.types.Outcome.TheVariants.{Value, Written, Spent}
use Rattle.frames.specs.declared.types.Next.{Next}
use Rattle.frames.specs.declared.types.Next.TheVariants.{Pending, Done}
use Rattle.frames.specs.declared.types.Frame.{Frame}
use Rattle.frames.specs.declared.types.Action.{Action}
use Rattle.frames.specs.declared.types.TheConstants.{STACK_FRAMES}
use Rattle.frames.specs.declared.register.TheConstants.{MOST_CELLS, MOST_WORDS}

-- the effect of an invocation: the operation's state and the register's memory after it
pub record Begun (P : Type 0) : Type 0 where
  pub next : Next P
  pub memory : Memory

-- the effect of a bit action: the operation's state after it; the bit and the value given, if the
-- action ended a hit read of a bit; and the register's memory after it
pub record Moved (P : Type 0) : Type 0 where
  pub next : Next P
  pub chosen : Option (ℕ × Bool)
  pub memory : Memory

-- what a register does, which is the same at every place; P is the type of the points that a
-- pending operation can be at
pub record Behaviour (P : Type 0) : Type 0 where
  -- the size of its own memory, in cells and words
  pub size : Place
  pub values : ℕ
  pub processes : ℕ
  -- the most frames that a pending operation can have
  pub depth : ℕ
  -- whether an operation fits a process, so that the process can invoke it
  pub suits : ℕ → Op → Bool
  -- its own memory at first, given its initial value
  pub initial : ℕ → Memory
  -- the effect of an invocation, given the process, the operation and the register's own memory
  pub begins : ℕ → Op → Memory → Begun P
  -- the effect of a pending operation's next bit action, given the operation's point and the
  -- register's own memory; if the action ends a hit read of a bit, the read gives the Bool
  pub goes : P → Bool → Memory → Moved P
  -- the frames of a pending operation, outermost first
  pub frames : P → List Frame
  -- the next bit action of a pending operation; its cell is counted from the register's first cell
  pub acts : P → Action

-- an outcome suits its operation: a read gives a value below `values`, a write is done, or either
-- is refused because a layer has no stamp or tag left
abbrev pub Answers : ℕ → Op → Outcome → Type 0
Answers values (op.Write v) (Value x) = ⊥
Answers values (op.Write v) Written = ⊤
Answers values op.Read (Value x) = x < values
Answers values op.Read Written = ⊥
Answers values o (Spent layer) = ⊤

-- if an operation is pending, its point satisfies `Reached`; if it has ended, its outcome satisfies
-- `Answer`
abbrev pub ReachedOrAnswered : {P : Type 0} → (P → Type 0) → (Outcome → Type 0) → Next P → Type 0
ReachedOrAnswered Reached Answer (Pending p) = Reached p
ReachedOrAnswered Reached Answer (Done o) = Answer o

-- After a step of process `who` in its operation o, the register's memory satisfies `Holds`. If o
-- is still pending, it is at a point that `Reaches` allows. If it has ended, its outcome suits it:
-- a read gives a value below `values`, a write is done, or either is refused.
pub record GoesOn {P : Type 0} (b : Behaviour P) (Holds : Memory → Type 0) (Reaches : ℕ → Op → P → Type 0) (who : ℕ) (o : Op) (next : Next P) (memory : Memory) : Type 0 where
  pub holds : Holds memory
  pub may_be_at : ReachedOrAnswered (Reaches who o) (Answers b.values o) next

-- the laws of a register; `Holds` is what always holds of its own memory, and `Reaches` says which
-- points a process can reach in an operation
pub record IsLawful {P : Type 0} (b : Behaviour P) (Holds : Memory → Type 0) (Reaches : ℕ → Op → P → Type 0) : Type 0 where
  pub few_cells : b.size.cell ≤ MOST_CELLS
  pub few_words : b.size.word ≤ MOST_WORDS
  pub some_frame : 1 ≤ b.depth
  pub few_frames : b.depth ≤ STACK_FRAMES
  -- Process 0 can write each value, and each other process can read. An operation fits only a
  -- process that exists, and a write fits only if its value is below `values`.
  pub zero_writes : (v : ℕ) → v < b.values → b.suits 0 (op.Write v) ≡ true
  pub others_read : (who : ℕ) → 1 ≤ who → who < b.processes → b.suits who op.Read ≡ true
  pub nobody_else : (who : ℕ) (o : Op) → b.suits who o ≡ true → who < b.processes
  pub no_other_value : (who v : ℕ) → b.suits who (op.Write v) ≡ true → v < b.values
  -- memory that satisfies `Holds` has the register's size; the initial memory satisfies `Holds`
  pub size_holds : (m : Memory) → Holds m → HasSize b.size m
  pub initial_holds : (v : ℕ) → v < b.values → Holds (b.initial v)
  -- after an invocation that fits, and after a bit action, the operation is as `GoesOn` says
  pub begins_well : (who : ℕ) (o : Op) (m : Memory) → Holds m → b.suits who o ≡ true → GoesOn b Holds Reaches who o (b.begins who o m).next (b.begins who o m).memory
  pub goes_well : (who : ℕ) (o : Op) (p : P) (choice : Bool) (m : Memory) → Holds m → Reaches who o p
      → GoesOn b Holds Reaches who o (b.goes p choice m).next (b.goes p choice m).memory
  -- if a bit action ends a hit read, the bit that was read is one of the register's own cells
  pub chooses_own : (who : ℕ) (o : Op) (p : P) (choice : Bool) (m : Memory) → Holds m → Reaches who o p → MatchOption (b.goes p choice m).chosen ⊤ (λ bit. bit.0 < b.size.cell)
  -- a bit action that ends no hit read has the same effect with either choice
  pub unused_choice : (who : ℕ) (o : Op) (p : P) (m : Memory) → Holds m → Reaches who o p → (b.goes p false m).chosen ≡ None → b.goes p true m ≡ b.goes p false m
  -- an operation that a process has pending fits the process
  pub reached_suits : (who : ℕ) (o : Op) (p : P) → Reaches who o p → b.suits who o ≡ true
  -- an operation has at most `depth` frames, and its next action is on one of the register's own
  -- cells
  pub frames_fit : (who : ℕ) (o : Op) (p : P) → Reaches who o p → length (b.frames p) ≤ b.depth
  pub acts_own : (who : ℕ) (o : Op) (p : P) → Reaches who o p → (b.acts p).cell < b.size.cell
