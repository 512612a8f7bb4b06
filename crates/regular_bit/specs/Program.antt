-- A regular bit over a register of two values (Lamport 1986, a regular bit from a safe one; Herlihy
-- and Shavit, chapter 4). The bit's own word of memory holds the value of the last write that
-- began. That a write sets this word as it begins is this project's own choice.
use Rattle.std.specs.Prelude.{◌≡◌, ℕ, ◌<◌, ◌≤◌, ◌==◌, if◌then◌else◌}
use Rattle.frames.specs.declared.types.Op.{Op}
use Rattle.frames.specs.declared.types.Op.TheVariants as op
use Rattle.frames.specs.declared.types.Outcome.TheVariants.{Written}
use Rattle.frames.specs.declared.types.FrameLayer.TheVariants.{Regular}
use Rattle.frames.specs.declared.types.Frame.{Frame}
use Rattle.layers.specs.declared.nested.Ask.{Ask}
use Rattle.layers.specs.Nested.{Program, Ends, Asks, Reads, Sets, Table}
use Rattle.layers.specs.OneWriter.{one_writer}
use Rattle.regular_bit.specs.declared.task.RegularTask.{RegularTask}
use Rattle.regular_bit.specs.declared.task.RegularTask.TheVariants.{Writing, Reading}

-- The program of an operation. A write of the value in word 0, the value written last, ends at
-- once. Any other write sets word 0 to its value and then writes the register below. A read reads
-- the register below.
abbrev pub regular_program : ℕ → Op → Program RegularTask
regular_program who (op.Write v) = Reads 0 (λ last. if last == v then Ends Written else Sets 0 v (Asks (Writing v) Ends))
regular_program who op.Read = Asks (Reading who) Ends

-- what a task asks of the register below: a write by process 0, or a read by process `who`
abbrev pub regular_asks : RegularTask → Ask
regular_asks (Writing v) = record { part = 0; who = 0; op = op.Write v }
regular_asks (Reading who) = record { part = 0; who = who; op = op.Read }

-- the frame that records a task on the stack of a pending operation: it holds the operation
abbrev pub regular_frame : RegularTask → Frame
regular_frame (Writing v) = record { layer = Regular; op = op.Write v; i = 0; x = 0 }
regular_frame (Reading who) = record { layer = Regular; op = op.Read; i = 0; x = 0 }

-- the task that process `who` is in, if f is its frame: a write of the value in the frame's
-- operation, or a read by `who`
abbrev pub regular_find : ℕ → Frame → RegularTask
regular_find who f = elim (f.op) [ op.Write v ↦ Writing v | op.Read ↦ Reading who ]

-- The rules of a regular bit over a register of `processes` processes. At first the register below
-- and the bit's own word hold the initial value.
abbrev pub regular_table : ℕ → Table RegularTask
regular_table processes = record {
  values = 2;
  processes = processes;
  suits = one_writer 2 processes;
  parts = 1;
  inner_values = 2;
  inner_processes = processes;
  first = λ value part. value;
  words = 1;
  first_word = λ value word. value;
  bound = λ word. 2;
  program = regular_program;
  asks = regular_asks;
  rest = λ task outcome. Ends outcome;
  frame = regular_frame;
  find = regular_find;
}

-- process `who` can be in this task during the operation: process 0, in a write of w, writes w;
-- each other process, in a read, reads
abbrev pub RegularMayBeAt : ℕ → ℕ → Op → RegularTask → Type 0
RegularMayBeAt processes who (op.Write w) (Writing v) = (who ≡ 0) × (v ≡ w) × (v < 2)
RegularMayBeAt processes who op.Read (Reading reader) = (reader ≡ who) × (1 ≤ reader) × (reader < processes)
RegularMayBeAt processes who (op.Write w) (Reading reader) = ⊥
RegularMayBeAt processes who op.Read (Writing v) = ⊥
