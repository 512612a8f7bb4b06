-- A register of several readers: for each of them it has a copy of a register of one reader
-- (Lamport 1986, construction 1; Herlihy and Shavit, chapter 4). It is this project's own choice
-- that the copies are written in the order of their readers.
use Rattle.std.specs.Prelude.{◌≡◌, ℕ, zero, suc, ◌+◌, ◌-◌, ◌<◌, ◌≤◌, ◌&&◌, nat_le, Option, Some, if◌then◌else◌}
use Rattle.frames.specs.declared.types.Op.{Op}
use Rattle.frames.specs.declared.types.Op.TheVariants as op
use Rattle.frames.specs.declared.types.Outcome.{Outcome}
use Rattle.frames.specs.declared.types.Outcome.TheVariants.{Written}
use Rattle.frames.specs.declared.types.FrameLayer.TheVariants as layer
use Rattle.frames.specs.declared.types.Frame.{Frame}
use Rattle.layers.specs.declared.nested.Ask.{Ask}
use Rattle.frames.specs.declared.limits.TheConstants.{MOST_READERS}
use Rattle.layers.specs.declared.fit.LayerError.{LayerError}
use Rattle.layers.specs.declared.fit.LayerError.TheVariants.{BadSize}
use Rattle.frames.specs.Behaviour.{Behaviour}
use Rattle.layers.specs.Fit.{refusal_below}
use Rattle.layers.specs.Nested.{Program, Ends, Asks, Table}
use Rattle.layers.specs.OneWriter.{one_writer}
use Rattle.reader_copies.specs.declared.task.CopiesTask.{CopiesTask}
use Rattle.reader_copies.specs.declared.task.CopiesTask.TheVariants.{Writing, Reading}

-- the rest of a write of v, which writes v to the remaining copies one after the other, beginning
-- with the copy of `reader`; the last argument is the number of copies that remain
abbrev pub write_from : ℕ → ℕ → ℕ → Program CopiesTask
write_from v reader zero = Ends Written
write_from v reader (suc left) = Asks (Writing v reader) (λ o. write_from v (reader + 1) left)

-- the program of an operation: a write writes the copies of readers 1 to `readers`, in this order;
-- a read by process `who` reads the copy of `who`
abbrev pub copies_program : ℕ → ℕ → Op → Program CopiesTask
copies_program readers who (op.Write v) = write_from v 1 readers
copies_program readers who op.Read = Asks (Reading who) Ends

-- the rest of an operation's program, after the copy of `reader` has ended the task with outcome o:
-- a write goes on with the copies of the next readers; a read ends with o
abbrev pub copies_rest : ℕ → CopiesTask → Outcome → Program CopiesTask
copies_rest readers (Writing v reader) o = write_from v (reader + 1) (readers - reader)
copies_rest readers (Reading reader) o = Ends o

-- what a task asks for: a write of the copy of `reader` by the copy's process 0, or a read of it by
-- the copy's process 1; the copy of reader 1 is part 0, and so on
abbrev pub copies_asks : CopiesTask → Ask
copies_asks (Writing v reader) = record { part = reader - 1; who = 0; op = op.Write v }
copies_asks (Reading reader) = record { part = reader - 1; who = 1; op = op.Read }

-- the frame that records a task on the stack of a pending operation: the operation, and the reader
-- whose copy is written or read
abbrev pub copies_frame : CopiesTask → Frame
copies_frame (Writing v reader) = record { layer = layer.Copies; op = op.Write v; i = reader; x = 0 }
copies_frame (Reading reader) = record { layer = layer.Copies; op = op.Read; i = reader; x = 0 }

-- the task of process `who` if its frame is f: to write or read a copy, as the operation of f says;
-- the copy is that of the reader whose number is the index of f
abbrev pub copies_find : ℕ → Frame → CopiesTask
copies_find who f = elim (f.op) [ op.Write v ↦ Writing v f.i | op.Read ↦ Reading f.i ]

-- The rules of a register made of copies, one for each of `readers` readers; each copy has `values`
-- values. At first each copy holds the initial value.
abbrev pub copies_table : ℕ → ℕ → Table CopiesTask
copies_table readers values = record {
  values = values;
  processes = readers + 1;
  suits = one_writer values (readers + 1);
  parts = readers;
  inner_values = values;
  inner_processes = 2;
  first = λ value part. value;
  words = 0;
  first_word = λ value word. 0;
  bound = λ word. 0;
  program = copies_program readers;
  asks = copies_asks;
  rest = copies_rest readers;
  frame = copies_frame;
  find = copies_find;
}

-- process `who` can be in this task during the operation: process 0, in a write of w, writes w to
-- some reader's copy; a reader, in a read, reads its own copy
abbrev pub CopiesMayBeAt : ℕ → ℕ → ℕ → Op → CopiesTask → Type 0
CopiesMayBeAt readers values who (op.Write w) (Writing v reader) = (who ≡ 0) × (v ≡ w) × (v < values) × (1 ≤ reader) × (reader ≤ readers)
CopiesMayBeAt readers values who op.Read (Reading reader) = (reader ≡ who) × (1 ≤ reader) × (reader ≤ readers)
CopiesMayBeAt readers values who (op.Write w) (Reading reader) = ⊥
CopiesMayBeAt readers values who op.Read (Writing v reader) = ⊥

-- why copies of register b can't make a register for `readers` readers, which may be 1 to 4; `None`
-- if they can
abbrev pub copies_refusal : {P : Type 0} → ℕ → Behaviour P → Option LayerError
copies_refusal readers b = if nat_le 1 readers && nat_le readers MOST_READERS then refusal_below (copies_table readers b.values) b else Some BadSize

-- the number of copies that the task's operation still has to write after the task
abbrev pub copies_left : ℕ → CopiesTask → ℕ
copies_left readers (Writing v reader) = readers - reader
copies_left readers (Reading reader) = 0
