-- A register of four values, made of two bits (Lamport 1986, construction 2). A write writes the
-- high bit and then the low bit; a read reads the high bit and then the low bit. It is this
-- project's own choice that the high bit is the first.
use Rattle.std.specs.Prelude.{◌≡◌, ℕ, ◌+◌, ◌-◌, ◌*◌, ◌<◌, ◌≤◌, ◌==◌, nat_le, if◌then◌else◌}
use Rattle.frames.specs.declared.types.Op.{Op}
use Rattle.frames.specs.declared.types.Op.TheVariants as op
use Rattle.frames.specs.declared.types.Outcome.{Outcome}
use Rattle.frames.specs.declared.types.Outcome.TheVariants.{Value, Written, Spent}
use Rattle.frames.specs.declared.types.FrameLayer.TheVariants.{Named}
use Rattle.frames.specs.declared.types.Frame.{Frame}
use Rattle.layers.specs.declared.nested.Ask.{Ask}
use Rattle.layers.specs.Nested.{Program, Ends, Asks, Table}
use Rattle.layers.specs.OneWriter.{one_writer}
use Rattle.own_register.specs.declared.task.TheConstants.{NAME}
use Rattle.own_register.specs.declared.task.TwoBitsTask.{TwoBitsTask}
use Rattle.own_register.specs.declared.task.TwoBitsTask.TheVariants.{WriteHigh, WriteLow, ReadHigh, ReadLow}

-- the high bit of a value below 4
abbrev pub high_of : ℕ → ℕ
high_of v = if nat_le 2 v then 1 else 0

-- the low bit of a value below 4
abbrev pub low_of : ℕ → ℕ
low_of v = if nat_le 2 v then v - 2 else v

-- the rest of an operation after the read of a bit: it goes on with the value that the read gave,
-- and ends with any other outcome
abbrev pub with_bit : (ℕ → Program TwoBitsTask) → Outcome → Program TwoBitsTask
with_bit go (Value x) = go x
with_bit go Written = Ends Written
with_bit go (Spent layer) = Ends (Spent layer)

-- the rest of a write of v, once the high bit is written: it writes the low bit, and ends
abbrev pub write_low : ℕ → Program TwoBitsTask
write_low v = Asks (WriteLow v) (λ o. Ends Written)

-- the rest of a read by `who` that got `high` from the high bit: it reads the low bit, and gives
-- the value of the two bits
abbrev pub read_low : ℕ → ℕ → Program TwoBitsTask
read_low who high = Asks (ReadLow who high) (with_bit (λ low. Ends (Value (2 * high + low))))

-- the program of an operation by process `who`
abbrev pub two_bits_program : ℕ → Op → Program TwoBitsTask
two_bits_program who (op.Write v) = Asks (WriteHigh v) (λ o. write_low v)
two_bits_program who op.Read = Asks (ReadHigh who) (with_bit (read_low who))

-- the rest of an operation's program, after this task has ended with this outcome
abbrev pub two_bits_rest : TwoBitsTask → Outcome → Program TwoBitsTask
two_bits_rest (WriteHigh v) o = write_low v
two_bits_rest (WriteLow v) o = Ends Written
two_bits_rest (ReadHigh who) o = with_bit (read_low who) o
two_bits_rest (ReadLow who high) o = with_bit (λ low. Ends (Value (2 * high + low))) o

-- what a task asks for: the high bit is part 0, and the low bit part 1
abbrev pub two_bits_asks : TwoBitsTask → Ask
two_bits_asks (WriteHigh v) = record { part = 0; who = 0; op = op.Write (high_of v) }
two_bits_asks (WriteLow v) = record { part = 1; who = 0; op = op.Write (low_of v) }
two_bits_asks (ReadHigh who) = record { part = 0; who = who; op = op.Read }
two_bits_asks (ReadLow who high) = record { part = 1; who = who; op = op.Read }

-- the frame that records a task: the operation, the part, and the high bit that a read has got
abbrev pub two_bits_frame : TwoBitsTask → Frame
two_bits_frame (WriteHigh v) = record { layer = Named NAME; op = op.Write v; i = 0; x = 0 }
two_bits_frame (WriteLow v) = record { layer = Named NAME; op = op.Write v; i = 1; x = 0 }
two_bits_frame (ReadHigh who) = record { layer = Named NAME; op = op.Read; i = 0; x = 0 }
two_bits_frame (ReadLow who high) = record { layer = Named NAME; op = op.Read; i = 1; x = high }

-- the task that process `who` is in, if f is its frame
abbrev pub two_bits_find : ℕ → Frame → TwoBitsTask
two_bits_find who f =
    elim (f.op) [ op.Write v ↦ (if f.i == 0 then WriteHigh v else WriteLow v) | op.Read ↦ (if f.i == 0 then ReadHigh who else ReadLow who f.x) ]

-- the rules of two bits of `processes` processes
abbrev pub two_bits_table : ℕ → Table TwoBitsTask
two_bits_table processes = record {
  values = 4;
  processes = processes;
  suits = one_writer 4 processes;
  parts = 2;
  inner_values = 2;
  inner_processes = processes;
  first = λ value part. if part == 0 then high_of value else low_of value;
  words = 0;
  first_word = λ value word. 0;
  bound = λ word. 0;
  program = two_bits_program;
  asks = two_bits_asks;
  rest = two_bits_rest;
  frame = two_bits_frame;
  find = two_bits_find;
}

-- process `who` can be in this task during the operation
abbrev pub TwoBitsMayBeAt : ℕ → ℕ → Op → TwoBitsTask → Type 0
TwoBitsMayBeAt processes who (op.Write w) (WriteHigh v) = (who ≡ 0) × (v ≡ w) × (w < 4)
TwoBitsMayBeAt processes who (op.Write w) (WriteLow v) = (who ≡ 0) × (v ≡ w) × (w < 4)
TwoBitsMayBeAt processes who op.Read (ReadHigh reader) = (reader ≡ who) × (1 ≤ who) × (who < processes)
TwoBitsMayBeAt processes who op.Read (ReadLow reader high) = (reader ≡ who) × (1 ≤ who) × (who < processes) × (high < 2)
TwoBitsMayBeAt processes who _ _ = ⊥

-- how many tasks can follow a task
abbrev pub two_bits_left : TwoBitsTask → ℕ
two_bits_left (WriteHigh v) = 1
two_bits_left (WriteLow v) = 0
two_bits_left (ReadHigh who) = 1
two_bits_left (ReadLow who high) = 0
