-- The register of one safe bit, in which a write takes two actions and a read two (Lamport 1986).
use Rattle.std.specs.Prelude.{◌≡◌, ℕ, ◌<◌, Bool, ◌&&◌, ◌==◌, nat_lt, List, [], ◌∷◌, Option, Some, None, if◌then◌else◌}
use Rattle.safe_bit.specs.Memory.{Memory, cell_at, on_cell}
use Rattle.safe_bit.specs.Actions.{idle_cell, start_write, end_write, start_read, end_read, read_gives}
use Rattle.schedule_steps.specs.declared.types.Op.{Op}
use Rattle.schedule_steps.specs.declared.types.Op.TheVariants as op
use Rattle.frames.specs.declared.types.Outcome.TheVariants.{Value, Written}
use Rattle.frames.specs.declared.types.Next.TheVariants.{Pending, Done}
use Rattle.frames.specs.declared.types.ActionKind.TheVariants.{WriteStart, WriteEnd, ReadStart, ReadEnd}
use Rattle.frames.specs.declared.types.FrameLayer.TheVariants as layer
use Rattle.frames.specs.declared.types.Frame.{Frame}
use Rattle.frames.specs.declared.types.Action.{Action}
use Rattle.frames.specs.declared.safe.SafePoint.{SafePoint}
use Rattle.frames.specs.declared.safe.SafePoint.TheVariants as at
use Rattle.frames.specs.Behaviour.{Behaviour, Begun, Moved}

-- the bit of a value: true for 1, and false for any other value
abbrev pub bit_of : ℕ → Bool
bit_of v = v == 1

-- the value of a bit: 1 for true, and 0 for false
abbrev pub value_of : Bool → ℕ
value_of b = if b then 1 else 0

-- process 0 can write 0 or 1, process 1 can read, and no other operation fits a process
abbrev pub safe_suits : ℕ → Op → Bool
safe_suits who (op.Write v) = who == 0 && nat_lt v 2
safe_suits who op.Read = who == 1

-- the memory at first: one idle cell, which holds the initial value, and no words
abbrev pub safe_initial : ℕ → Memory
safe_initial v = record { cells = idle_cell (bit_of v) ∷ []; words = [] }

-- the effect of an invocation: the operation is pending before its start action, and the memory
-- stays as it was
abbrev pub safe_begins : ℕ → Op → Memory → Begun SafePoint
safe_begins who (op.Write v) m = record { next = Pending (at.WriteStart (bit_of v)); memory = m }
safe_begins who op.Read m = record { next = Pending at.ReadStart; memory = m }

-- the effect of an operation's next action: a write makes two actions, a start and an end, and so
-- does a read, which gives the choice if it was hit
abbrev pub safe_goes : SafePoint → Bool → Memory → Moved SafePoint
safe_goes (at.WriteStart v) choice m = record { next = Pending (at.WriteEnd v); chosen = None; memory = on_cell 0 (start_write v) m }
safe_goes (at.WriteEnd v) choice m = record { next = Done Written; chosen = None; memory = on_cell 0 end_write m }
safe_goes at.ReadStart choice m = record { next = Pending at.ReadEnd; chosen = None; memory = on_cell 0 start_read m }
safe_goes at.ReadEnd choice m = record {
  next = Done (Value (value_of (read_gives choice (cell_at 0 m))));
  chosen = if (cell_at 0 m).hit then Some (0, read_gives choice (cell_at 0 m)) else None;
  memory = on_cell 0 end_read m;
}

-- the one frame of an operation; its field i is 0 before the operation's start action, and 1 after
-- it
abbrev pub safe_frame : SafePoint → Frame
safe_frame (at.WriteStart v) = record { layer = layer.Safe; op = op.Write (value_of v); i = 0; x = 0 }
safe_frame (at.WriteEnd v) = record { layer = layer.Safe; op = op.Write (value_of v); i = 1; x = 0 }
safe_frame at.ReadStart = record { layer = layer.Safe; op = op.Read; i = 0; x = 0 }
safe_frame at.ReadEnd = record { layer = layer.Safe; op = op.Read; i = 1; x = 0 }

-- the point of an operation: before its start action if i is 0, and else before its end action
abbrev pub point_at : Op → ℕ → SafePoint
point_at (op.Write v) i = if i == 0 then at.WriteStart (bit_of v) else at.WriteEnd (bit_of v)
point_at op.Read i = if i == 0 then at.ReadStart else at.ReadEnd

-- the point that the first frame of a stack describes; `None` if the stack is empty
abbrev pub safe_point : ℕ → List Frame → Option SafePoint
safe_point who [] = None
safe_point who (frame ∷ rest) = Some (point_at frame.op frame.i)

-- the next action of an operation, on the register's one cell, cell 0
abbrev pub safe_acts : SafePoint → Action
safe_acts (at.WriteStart v) = record { kind = WriteStart; cell = 0 }
safe_acts (at.WriteEnd v) = record { kind = WriteEnd; cell = 0 }
safe_acts at.ReadStart = record { kind = ReadStart; cell = 0 }
safe_acts at.ReadEnd = record { kind = ReadEnd; cell = 0 }

-- what the register of one safe bit does
abbrev pub safe_behaviour : Behaviour SafePoint
safe_behaviour = record {
  size = record { cell = 1; word = 0 };
  values = 2;
  processes = 2;
  depth = 1;
  suits = safe_suits;
  initial = safe_initial;
  begins = safe_begins;
  goes = safe_goes;
  frames = λ p. safe_frame p ∷ [];
  acts = safe_acts;
}

-- the points that a process can reach in an operation: process 0 can reach those of a write of 0 or
-- 1, with that bit, and process 1 can reach those of a read
abbrev pub SafeReaches : ℕ → Op → SafePoint → Type 0
SafeReaches who (op.Write v) (at.WriteStart bit) = (who ≡ 0) × (v < 2) × (bit ≡ bit_of v)
SafeReaches who (op.Write v) (at.WriteEnd bit) = (who ≡ 0) × (v < 2) × (bit ≡ bit_of v)
SafeReaches who op.Read at.ReadStart = who ≡ 1
SafeReaches who op.Read at.ReadEnd = who ≡ 1
SafeReaches who _ _ = ⊥
