-- A register of 8 values that has to be read before it can be written. Tests build a matrix of such
-- registers, in which a write is refused because the second part of its row is spent.
use Rattle.std.specs.Prelude.{◌≡◌, ℕ, ◌<◌, ◌==◌, if◌then◌else◌}
use Rattle.frames.specs.declared.types.Op.{Op}
use Rattle.frames.specs.declared.types.Op.TheVariants as op
use Rattle.frames.specs.declared.types.Layer.TheVariants.{Stamped}
use Rattle.frames.specs.declared.types.Outcome.TheVariants.{Spent}
use Rattle.frames.specs.declared.types.FrameLayer.TheVariants.{Named}
use Rattle.frames.specs.declared.types.LayerName.{LayerName}
use Rattle.layers.specs.declared.nested.Ask.{Ask}
use Rattle.layers.specs.Nested.{Program, Ends, Asks, Reads, Sets, Table}
use Rattle.layers.specs.OneWriter.{one_writer}

-- the name of the layer, `1st`
abbrev pub read_first_name : LayerName
read_first_name = record { 0 = 49; 1 = 115; 2 = 116 }

-- the task of an operation is the operation itself; word 0 is 1 once the register has been read
abbrev pub read_first_program : ℕ → Op → Program Op
read_first_program who (op.Write v) = Reads 0 (λ read. if read == 0 then Ends (Spent Stamped) else Asks (op.Write v) Ends)
read_first_program who op.Read = Sets 0 1 (Asks op.Read Ends)

-- what a task asks for: the operation of the only part
abbrev pub read_first_asks : Op → Ask
read_first_asks (op.Write v) = record { part = 0; who = 0; op = op.Write v }
read_first_asks op.Read = record { part = 0; who = 1; op = op.Read }

-- the rules of the register
abbrev pub read_first_table : Table Op
read_first_table = record {
  values = 8;
  processes = 2;
  suits = one_writer 8 2;
  parts = 1;
  inner_values = 8;
  inner_processes = 2;
  first = λ value part. value;
  words = 1;
  first_word = λ value word. 0;
  bound = λ word. 2;
  program = read_first_program;
  asks = read_first_asks;
  rest = λ task outcome. Ends outcome;
  frame = λ task. record { layer = Named read_first_name; op = task; i = 0; x = 0 };
  find = λ who f. f.op;
}

-- process `who` can be in this task during the operation: process 0 in the write that it began,
-- process 1 in a read
abbrev pub ReadFirstMayBeAt : ℕ → Op → Op → Type 0
ReadFirstMayBeAt who (op.Write w) (op.Write v) = (who ≡ 0) × (w ≡ v) × (v < 8)
ReadFirstMayBeAt who op.Read op.Read = who ≡ 1
ReadFirstMayBeAt who (op.Write w) op.Read = ⊥
ReadFirstMayBeAt who op.Read (op.Write v) = ⊥
