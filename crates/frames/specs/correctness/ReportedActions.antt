-- A register reports its actions: what it reports as an operation's next action is what the
-- operation's next step does to the cells, and a choice is reported exactly if a hit read ends.
use Rattle.std.specs.Prelude.{ℕ, ◌≡◌, Bool, Option, Some, None, if◌then◌else◌}
use Rattle.safe_bit.specs.declared.Cell.{Cell}
use Rattle.safe_bit.specs.Memory.{Memory, cell_at, on_cell}
use Rattle.safe_bit.specs.Actions.{start_write, end_write, start_read, end_read}
use Rattle.schedule_steps.specs.declared.types.Op.{Op}
use Rattle.frames.specs.declared.types.ActionKind.{ActionKind}
use Rattle.frames.specs.declared.types.ActionKind.TheVariants.{WriteStart, WriteEnd, ReadStart, ReadEnd}
use Rattle.frames.specs.Behaviour.{Behaviour}

-- a cell after an action of this kind; the Bool is the value that a write's start begins to write,
-- and the other actions don't depend on it
abbrev pub cell_after : ActionKind → Bool → Cell → Cell
cell_after WriteStart value = start_write value
cell_after WriteEnd value = end_write
cell_after ReadStart value = start_read
cell_after ReadEnd value = end_read

-- what an action of this kind on cell j chooses: the cell and the step's choice if it ends a hit
-- read, else nothing
abbrev pub choice_on : ActionKind → ℕ → Bool → Memory → Option (ℕ × Bool)
choice_on ReadEnd j choice m = if (cell_at j m).hit then Some (j, choice) else None
choice_on _ j choice m = None

-- The next bit action from point p in memory m is the one that the register reports. On the cells
-- it is an action of the reported kind, on the reported cell alone; `value` is what it begins to
-- write, if it is a write's start. And a choice is reported exactly if the action ends a hit read:
-- that cell, with the step's choice.
pub record MakesItsAction {P : Type 0} (b : Behaviour P) (p : P) (choice : Bool) (m : Memory) : Type 0 where
  pub value : Bool
  pub cells : (b.goes p choice m).memory.cells ≡ (on_cell (b.acts p).cell (cell_after (b.acts p).kind value) m).cells
  pub chosen : (b.goes p choice m).chosen ≡ choice_on (b.acts p).kind (b.acts p).cell choice m

-- A register reports its actions: no invocation changes a cell, and each bit action of a pending
-- operation is the one that the register reports as the operation's next. `Holds` is what always
-- holds of the register's memory, and `Reaches` says which points a process can reach.
pub record ReportsActions {P : Type 0} (b : Behaviour P) (Holds : Memory → Type 0) (Reaches : ℕ → Op → P → Type 0) : Type 0 where
  pub begins : (who : ℕ) (o : Op) (m : Memory) → (b.begins who o m).memory.cells ≡ m.cells
  pub goes : (who : ℕ) (o : Op) (p : P) (choice : Bool) (m : Memory) → Holds m → Reaches who o p → MakesItsAction b p choice m
