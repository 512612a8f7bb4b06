-- The bytes of a state, under which a search keeps it. Most cells and words are 0, and most numbers
-- are small.
use Rattle.std.specs.Prelude.{ℕ, zero, suc, ◌+◌, ◌*◌, ◌/◌, ◌%◌, ◌==◌, nat_lt, List, [], ◌∷◌, ◌++◌, length, map, Option, None, Some, Bool, true, false, slice_index_or, if◌then◌else◌}
use Rattle.safe_bit.specs.declared.Cell.{Cell}
use Rattle.safe_bit.specs.Memory.{Memory}
use Rattle.frames.specs.declared.types.Op.{Op}
use Rattle.frames.specs.declared.types.Op.TheVariants.{Write, Read}
use Rattle.frames.specs.declared.types.Frame.{Frame}
use Rattle.frames.specs.declared.types.FrameLayer.{FrameLayer}
use Rattle.frames.specs.declared.types.FrameLayer.TheVariants as layers
use Rattle.frames.specs.declared.types.Layer.TheVariants.{Stamped, Matrix}
use Rattle.frames.specs.declared.types.Outcome.{Outcome}
use Rattle.frames.specs.declared.types.Outcome.TheVariants.{Value, Written, Spent}
use Rattle.frames.specs.declared.running.Running.{Running}
use Rattle.frames.specs.Behaviour.{Behaviour}
use Rattle.frames.specs.Flat.{stack_of}
use Rattle.answers.specs.States.{StateOf}

-- the four bytes of half a number, the lowest first: a number has at most 64 bits
abbrev pub half_bytes : ℕ → List ℕ
half_bytes n = n % 256 ∷ (n / 256) % 256 ∷ (n / 256 / 256) % 256 ∷ n / 256 / 256 / 256 ∷ []

-- the bytes of a number: one if it is below 192; two if it is below 16128, of which the first is 192
-- to 254; or else 255 and the bytes of its two halves
abbrev pub number_bytes : ℕ → List ℕ
number_bytes n =
    if nat_lt n 192 then n ∷ [] else
    if nat_lt n 16128 then (192 + n / 256) ∷ n % 256 ∷ [] else
    255 ∷ half_bytes (n % 4294967296) ++ half_bytes (n / 4294967296)

-- the bytes of a list of numbers
abbrev pub packed : List ℕ → List ℕ
packed [] = []
packed (n ∷ ns) = number_bytes n ++ packed ns

-- Numbers for a list that `gap` zeros precede. For each 1: twice the number of zeros right before
-- it. For each greater number: one more than twice the number of zeros right before it, and then
-- the number itself. At the end: twice the number of zeros at the end of the list.
abbrev pub by_gaps : ℕ → List ℕ → List ℕ
by_gaps gap [] = 2 * gap ∷ []
by_gaps gap (n ∷ ns) =
    if n == 0 then by_gaps (gap + 1) ns else
    if n == 1 then 2 * gap ∷ by_gaps 0 ns else
    (2 * gap + 1) ∷ n ∷ by_gaps 0 ns

-- a number for the value that is being written to a cell, if any
abbrev pub writing_code : Option Bool → ℕ
writing_code None = 0
writing_code (Some false) = 2
writing_code (Some true) = 4

-- a number for a cell
abbrev pub cell_code : Cell → ℕ
cell_code c = (if c.value then 1 else 0) + writing_code c.writing + (if c.reading then 8 else 0) + (if c.hit then 16 else 0)

-- a number for an operation
abbrev pub op_code : Op → ℕ
op_code Read = 0
op_code (Write v) = v + 1

-- a number for a frame's layer; one for all layers with names of their own
abbrev pub layer_code : FrameLayer → ℕ
layer_code layers.Safe = 0
layer_code layers.Copies = 1
layer_code layers.Regular = 2
layer_code layers.Unary = 3
layer_code layers.Stamped = 4
layer_code layers.MatrixRead = 5
layer_code layers.MatrixWrite = 6
layer_code (layers.Named name) = 7

-- the letters of a layer's own name, if it has one
abbrev pub name_numbers : FrameLayer → List ℕ
name_numbers (layers.Named name) = name.0 ∷ name.1 ∷ name.2 ∷ []
name_numbers _ = []

-- numbers for a frame
abbrev pub frame_numbers : Frame → List ℕ
frame_numbers f = (layer_code f.layer + 8 * op_code f.op) ∷ f.i ∷ f.x ∷ name_numbers f.layer

-- numbers for these frames
abbrev pub frames_numbers : List Frame → List ℕ
frames_numbers [] = []
frames_numbers (f ∷ frames) = frame_numbers f ++ frames_numbers frames

-- a number for an outcome
abbrev pub outcome_code : Outcome → ℕ
outcome_code Written = 0
outcome_code (Spent Stamped) = 1
outcome_code (Spent Matrix) = 2
outcome_code (Value v) = v + 3

-- numbers for a stack and a stop mark
abbrev pub stack_numbers : List Frame → Bool → List ℕ
stack_numbers frames stopped = (2 * length frames + (if stopped then 1 else 0)) ∷ frames_numbers frames

-- numbers for a list of outcomes
abbrev pub outcomes_numbers : List Outcome → List ℕ
outcomes_numbers outcomes = length outcomes ∷ map outcome_code outcomes

-- numbers for process p: its frames, whether it has stopped, and its outcomes
abbrev pub process_numbers : {P : Type 0} → Behaviour P → List (Option (Running P)) → List Bool → List (List Outcome) → ℕ → List ℕ
process_numbers b running stopped answers p =
    stack_numbers (stack_of b (slice_index_or running p None)) (slice_index_or stopped p false) ++ outcomes_numbers (slice_index_or answers p [])

-- numbers for `count` processes, the first of which is p
abbrev pub processes_numbers : {P : Type 0} → Behaviour P → List (Option (Running P)) → List Bool → List (List Outcome) → ℕ → ℕ → List ℕ
processes_numbers b running stopped answers zero p = []
processes_numbers b running stopped answers (suc count) p = process_numbers b running stopped answers p ++ processes_numbers b running stopped answers count (p + 1)

-- numbers for a memory's cells and words
abbrev pub memory_numbers : Memory → List ℕ
memory_numbers m = by_gaps 0 (map cell_code m.cells) ++ by_gaps 0 m.words

-- numbers for a memory, and for what each process has pending, whether it has stopped, and its
-- outcomes
abbrev pub state_numbers : {P : Type 0} → Behaviour P → Memory → List (Option (Running P)) → List Bool → List (List Outcome) → List ℕ
state_numbers b m running stopped answers = memory_numbers m ++ processes_numbers b running stopped answers b.processes 0

-- the bytes of a state of a register with behaviour b
abbrev pub state_bytes : {R P : Type 0} → Behaviour P → StateOf R P → List ℕ
state_bytes b x = packed (state_numbers b x.configuration.memory x.configuration.running x.configuration.stopped x.answers)
