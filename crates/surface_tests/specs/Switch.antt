-- A bit whose write and read are one action each: a register with only the methods that a register
-- must have.
use Rattle.std.proofs.Common.{◌≡◌, ℕ, true, List, [], ◌∷◌, Option, Some, None}
use Rattle.safe_bit.specs.declared.Place.{Place}
use Rattle.safe_bit.specs.Memory.{Memory, cell_at}
use Rattle.safe_bit.specs.Actions.{idle_cell}
use Rattle.frames.specs.declared.types.Op.{Op}
use Rattle.frames.specs.declared.types.Op.TheVariants as op
use Rattle.frames.specs.declared.types.Outcome.TheVariants.{Value, Written}
use Rattle.frames.specs.declared.types.Next.TheVariants.{Pending, Done}
use Rattle.frames.specs.declared.types.ActionKind.TheVariants.{WriteEnd, ReadEnd}
use Rattle.frames.specs.declared.types.FrameLayer.TheVariants.{Safe}
use Rattle.frames.specs.declared.types.Frame.{Frame}
use Rattle.frames.specs.declared.types.Action.{Action}
use Rattle.frames.specs.Behaviour.{Behaviour, Moved}
use Rattle.frames.specs.OneWriter.{one_writer}
use Rattle.frames.specs.SafeBit.{bit_of, value_of}

-- one cell and no word
abbrev pub switch_size : Place
switch_size = record { cell = 1; word = 0 }

-- The only point of a pending operation is the operation itself. One action ends the operation.
abbrev pub switch_goes : Op → Memory → Moved Op
switch_goes (op.Write v) m = record { next = Done Written; chosen = None; memory = record { cells = idle_cell (bit_of v) ∷ []; words = [] } }
switch_goes op.Read m = record { next = Done (Value (value_of (cell_at 0 m).value)); chosen = None; memory = m }

-- the only frame of a pending operation
abbrev pub switch_frame : Op → Frame
switch_frame o = record { layer = Safe; op = o; i = 0; x = 0 }

-- the next action of a pending operation, on the only cell
abbrev pub switch_acts : Op → Action
switch_acts (op.Write v) = record { kind = WriteEnd; cell = 0 }
switch_acts op.Read = record { kind = ReadEnd; cell = 0 }

-- the point that frames give: their first one's operation
abbrev pub switch_point : ℕ → List Frame → Option Op
switch_point who [] = None
switch_point who (frame ∷ rest) = Some frame.op

-- the behaviour of this register
abbrev pub switch : Behaviour Op
switch = record {
  size = switch_size;
  values = 2;
  processes = 2;
  depth = 1;
  suits = one_writer 2 2;
  initial = λ v. record { cells = idle_cell (bit_of v) ∷ []; words = [] };
  begins = λ who o m. record { next = Pending o; memory = m };
  goes = λ p choice m. switch_goes p m;
  frames = λ p. switch_frame p ∷ [];
  acts = switch_acts;
}

-- the pending operation p of a process is the operation o that it invoked, and o fits the process
abbrev pub SwitchReaches : ℕ → Op → Op → Type 0
SwitchReaches who o p = (p ≡ o) × (one_writer 2 2 who o ≡ true)
