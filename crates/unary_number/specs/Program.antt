-- A unary number of M values over M bits (Lamport 1986, a regular register of many values from
-- regular bits; Herlihy and Shavit, chapter 4). Value x is written as a 1 in bit x and a 0 in each
-- bit below bit x. A read scans the bits from bit 0 upward for the first 1; what it gives if it
-- finds no 1 is this project's own choice.
use Rattle.std.specs.Prelude.{◌≡◌, ℕ, zero, suc, ◌+◌, ◌-◌, ◌<◌, ◌≤◌, ◌==◌, ◌&&◌, nat_le, Option, Some, if◌then◌else◌}
use Rattle.frames.specs.declared.types.Op.{Op}
use Rattle.frames.specs.declared.types.Op.TheVariants as op
use Rattle.frames.specs.declared.types.Outcome.{Outcome}
use Rattle.frames.specs.declared.types.Outcome.TheVariants.{Value, Written, Spent}
use Rattle.frames.specs.declared.types.FrameLayer.TheVariants.{Unary}
use Rattle.frames.specs.declared.types.Frame.{Frame}
use Rattle.layers.specs.declared.nested.Ask.{Ask}
use Rattle.frames.specs.declared.limits.TheConstants.{LEAST_VALUES, MOST_VALUES}
use Rattle.layers.specs.declared.fit.LayerError.{LayerError}
use Rattle.layers.specs.declared.fit.LayerError.TheVariants.{BadSize}
use Rattle.frames.specs.Behaviour.{Behaviour}
use Rattle.layers.specs.Fit.{refusal_below}
use Rattle.layers.specs.Nested.{Program, Ends, Asks, Table}
use Rattle.layers.specs.OneWriter.{one_writer}
use Rattle.unary_number.specs.declared.task.UnaryTask.{UnaryTask}
use Rattle.unary_number.specs.declared.task.UnaryTask.TheVariants.{Setting, Clearing, Looking}

-- the rest of a write of x, which clears the bits below bit i, from bit i - 1 down to bit 0, and
-- then ends
abbrev pub clears_below : ℕ → ℕ → Program UnaryTask
clears_below x zero = Ends Written
clears_below x (suc i) = Asks (Clearing x i) (λ outcome. clears_below x i)

-- the rest of a scan after a read of bit i with this outcome: if the read gave 1, the scan ends and
-- gives i; if it gave another value, the scan goes on with the program `onward`
abbrev pub after_look : ℕ → Program UnaryTask → Outcome → Program UnaryTask
after_look i onward (Value bit) = if bit == 1 then Ends (Value i) else onward
after_look i onward Written = Ends Written
after_look i onward (Spent layer) = Ends (Spent layer)

-- the rest of a scan by process `who`, which reads the bits above bit i, upward, and ends with
-- outcome `not_found` if none of them gives 1; the last argument is the number of these bits
abbrev pub looks_above : Outcome → ℕ → ℕ → ℕ → Program UnaryTask
looks_above not_found who i zero = Ends not_found
looks_above not_found who i (suc left) = Asks (Looking who (suc i) left) (λ outcome. after_look (suc i) (looks_above not_found who (suc i) left) outcome)

-- the program of an operation by process `who`: a write of x sets bit x and then clears the bits
-- below it; a read scans from bit 0 upward for the first 1, and ends with outcome `not_found` if it
-- finds no 1
abbrev pub unary_program : Outcome → ℕ → ℕ → Op → Program UnaryTask
unary_program not_found values who (op.Write x) = Asks (Setting x) (λ outcome. clears_below x x)
unary_program not_found values who op.Read = Asks (Looking who 0 (values - 1)) (λ outcome. after_look 0 (looks_above not_found who 0 (values - 1)) outcome)

-- the rest of an operation's program, after this task has ended with this outcome
abbrev pub unary_rest : Outcome → UnaryTask → Outcome → Program UnaryTask
unary_rest not_found (Setting x) outcome = clears_below x x
unary_rest not_found (Clearing x i) outcome = clears_below x i
unary_rest not_found (Looking who i left) outcome = after_look i (looks_above not_found who i left) outcome

-- what a task asks for: that a bit is set to 1 or cleared to 0 by its process 0, or read by its
-- process `who`
abbrev pub unary_asks : UnaryTask → Ask
unary_asks (Setting x) = record { part = x; who = 0; op = op.Write 1 }
unary_asks (Clearing x i) = record { part = i; who = 0; op = op.Write 0 }
unary_asks (Looking who i left) = record { part = i; who = who; op = op.Read }

-- the frame that records a task on the stack of a pending operation: the operation of the unary
-- number, and the index of the bit that is written or read
abbrev pub unary_frame : UnaryTask → Frame
unary_frame (Setting x) = record { layer = Unary; op = op.Write x; i = x; x = 0 }
unary_frame (Clearing x i) = record { layer = Unary; op = op.Write x; i = i; x = 0 }
unary_frame (Looking who i left) = record { layer = Unary; op = op.Read; i = i; x = 0 }

-- The task that process `who` is in, if f is its frame; the frame's field `i` is a bit's index. A
-- write of x sets bit i if i is x, and clears bit i otherwise. A read reads bit i, and has all
-- higher bits left to read.
abbrev pub unary_find : ℕ → ℕ → Frame → UnaryTask
unary_find values who f = elim (f.op) [ op.Write x ↦ (if f.i == x then Setting x else Clearing x f.i) | op.Read ↦ Looking who f.i (values - 1 - f.i) ]

-- The rules of a unary number of `values` values over bits of `processes` processes. At first only
-- the bit of the initial value is 1. A scan that finds no 1 ends with outcome `not_found`.
abbrev pub unary_table_with : Outcome → ℕ → ℕ → Table UnaryTask
unary_table_with not_found values processes = record {
  values = values;
  processes = processes;
  suits = one_writer values processes;
  parts = values;
  inner_values = 2;
  inner_processes = processes;
  first = λ value bit. if bit == value then 1 else 0;
  words = 0;
  first_word = λ value word. 0;
  bound = λ word. 0;
  program = unary_program not_found values;
  asks = unary_asks;
  rest = unary_rest not_found;
  frame = unary_frame;
  find = unary_find values;
}

-- the rules of a unary number, in which a scan that finds no 1 gives the greatest value
abbrev pub unary_table : ℕ → ℕ → Table UnaryTask
unary_table values processes = unary_table_with (Value (values - 1)) values processes

-- process `who` can be in this task during the operation: process 0, in a write of w, sets bit w or
-- clears a lower bit; each other process, in a read, reads a bit i that has `left` bits above it
abbrev pub UnaryMayBeAt : ℕ → ℕ → ℕ → Op → UnaryTask → Type 0
UnaryMayBeAt values processes who (op.Write w) (Setting x) = (who ≡ 0) × (x ≡ w) × (w < values)
UnaryMayBeAt values processes who (op.Write w) (Clearing x i) = (who ≡ 0) × (x ≡ w) × (i < w) × (w < values)
UnaryMayBeAt values processes who op.Read (Looking reader i left) = (reader ≡ who) × (1 ≤ who) × (who < processes) × (i + left + 1 ≡ values)
UnaryMayBeAt values processes who _ _ = ⊥

-- why a unary number of `values` values, which may be 2 to 512, can't be built on registers like b;
-- `None` if it can
abbrev pub unary_refusal : {P : Type 0} → ℕ → Behaviour P → Option LayerError
unary_refusal values b = if nat_le LEAST_VALUES values && nat_le values MOST_VALUES then refusal_below (unary_table values b.processes) b else Some BadSize

-- at least the number of bits that an operation still has to clear or read after a task
abbrev pub unary_left : UnaryTask → ℕ
unary_left (Setting x) = x
unary_left (Clearing x i) = i
unary_left (Looking who i left) = left
