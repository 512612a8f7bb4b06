-- A stamped register of one writer and one reader, over a register of codes. A code is a stamp
-- times the number of values, plus a value (Lamport 1986; Herlihy and Shavit, chapter 4, the atomic
-- register from a regular one by time stamps). The stamped register has two words of memory of its
-- own: word 0 is the stamp of the last write, and word 1 is `best`, the greatest code read so far.
-- Three things are this project's own: that there is a last stamp, that the stamp is raised as the
-- write begins, and that `best` is set in the step that ends the read.
use Rattle.std.specs.Prelude.{◌≡◌, ℕ, ◌+◌, ◌*◌, ◌%◌, ◌<◌, ◌≤◌, ◌==◌, max, if◌then◌else◌}
use Rattle.frames.specs.declared.types.Op.{Op}
use Rattle.frames.specs.declared.types.Op.TheVariants as op
use Rattle.frames.specs.declared.types.Layer.TheVariants as spent
use Rattle.frames.specs.declared.types.Outcome.{Outcome}
use Rattle.frames.specs.declared.types.Outcome.TheVariants.{Value, Written, Spent}
use Rattle.frames.specs.declared.types.FrameLayer.TheVariants as frame
use Rattle.frames.specs.declared.types.Frame.{Frame}
use Rattle.layers.specs.declared.nested.Ask.{Ask}
use Rattle.layers.specs.Nested.{Program, Ends, Asks, Reads, Sets, Table}
use Rattle.layers.specs.OneWriter.{one_writer}
use Rattle.stamped.specs.declared.task.StampedTask.{StampedTask}
use Rattle.stamped.specs.declared.task.StampedTask.TheVariants.{Writing, Reading}

-- The rest of an operation, after the register below has ended the task with this outcome. A write
-- ends. A read sets word 1, `best`, to the greater of `best` and the code that it has read, and
-- returns the value in that greater code.
abbrev pub stamped_rest : ℕ → StampedTask → Outcome → Program StampedTask
stamped_rest values (Writing v code) outcome = Ends outcome
stamped_rest values Reading Written = Ends Written
stamped_rest values Reading (Value code) = Reads 1 (λ best. Sets 1 (max best code) (Ends (Value (max best code % values))))
stamped_rest values Reading (Spent layer) = Ends (Spent layer)

-- The program of an operation. A write of v is spent if word 0, the stamp, is the last stamp;
-- otherwise it raises the stamp by 1, and writes the code of the new stamp and v to the register
-- below. A read reads the register below, and then goes on as `stamped_rest` defines.
abbrev pub stamped_program : ℕ → ℕ → ℕ → Op → Program StampedTask
stamped_program values last who (op.Write v) =
    Reads 0 (λ stamp. if stamp == last then Ends (Spent spent.Stamped) else Sets 0 (stamp + 1) (Asks (Writing v ((stamp + 1) * values + v)) Ends))
stamped_program values last who op.Read = Asks Reading (stamped_rest values Reading)

-- what a task asks of the register below: a write of the code by process 0, or a read by process 1
abbrev pub stamped_asks : StampedTask → Ask
stamped_asks (Writing v code) = record { part = 0; who = 0; op = op.Write code }
stamped_asks Reading = record { part = 0; who = 1; op = op.Read }

-- the frame that records a task on the stack of a pending operation: the operation of the stamped
-- register, and the code that a write writes
abbrev pub stamped_frame : StampedTask → Frame
stamped_frame (Writing v code) = record { layer = frame.Stamped; op = op.Write v; i = 0; x = code }
stamped_frame Reading = record { layer = frame.Stamped; op = op.Read; i = 0; x = 0 }

-- the task that process `who` is in, if f is its frame: a write of the value in the frame's
-- operation, as the code in the frame, or a read
abbrev pub stamped_find : ℕ → Frame → StampedTask
stamped_find who f = elim (f.op) [ op.Write v ↦ Writing v f.x | op.Read ↦ Reading ]

-- the number of codes, given the number of values and the last stamp
abbrev pub stamped_code_count : ℕ → ℕ → ℕ
stamped_code_count values last = (last + 1) * values

-- The rules of a stamped register of `values` values, with stamps up to `last`. At first the
-- register below and `best` hold the initial value: this number is also the code of stamp 0 and
-- this value.
abbrev pub stamped_table : ℕ → ℕ → Table StampedTask
stamped_table values last = record {
  values = values;
  processes = 2;
  suits = one_writer values 2;
  parts = 1;
  inner_values = stamped_code_count values last;
  inner_processes = 2;
  first = λ value part. value;
  words = 2;
  first_word = λ value word. if word == 0 then 0 else value;
  bound = λ word. if word == 0 then last + 1 else stamped_code_count values last;
  program = stamped_program values last;
  asks = stamped_asks;
  rest = stamped_rest values;
  frame = stamped_frame;
  find = stamped_find;
}

-- process `who` can be in this task during the operation: process 0, in a write of w, writes a code
-- of w with a stamp of 1 or more; process 1, in a read, reads
abbrev pub StampedMayBeAt : ℕ → ℕ → ℕ → Op → StampedTask → Type 0
StampedMayBeAt values last who (op.Write w) (Writing v code) = (who ≡ 0) × (v ≡ w) × (code % values ≡ v) × (values ≤ code) × (code < stamped_code_count values last)
StampedMayBeAt values last who op.Read Reading = who ≡ 1
StampedMayBeAt values last who (op.Write w) Reading = ⊥
StampedMayBeAt values last who op.Read (Writing v code) = ⊥
