-- The behaviour of each tower that is built over a safe bit, given its numbers of readers, values
-- and so on. A code is one number for a stamp and a value, or for a tag, a writer and a value.
use Rattle.std.specs.Prelude.{ℕ, ◌+◌, ◌*◌}
use Rattle.frames.specs.Behaviour.{Behaviour}
use Rattle.frames.specs.declared.safe.SafePoint.{SafePoint}
use Rattle.layers.specs.declared.nested.Nested.{Nested}
use Rattle.layers.specs.Nested.{layered}
use Rattle.frames.specs.SafeBit.{safe_behaviour}
use Rattle.reader_copies.specs.declared.task.CopiesTask.{CopiesTask}
use Rattle.reader_copies.specs.Program.{copies_table}
use Rattle.regular_bit.specs.declared.task.RegularTask.{RegularTask}
use Rattle.regular_bit.specs.Program.{regular_table}
use Rattle.unary_number.specs.declared.task.UnaryTask.{UnaryTask}
use Rattle.unary_number.specs.Program.{unary_table}
use Rattle.stamped.specs.declared.task.StampedTask.{StampedTask}
use Rattle.stamped.specs.Program.{stamped_table}
use Rattle.matrix.specs.declared.task.MatrixTask.{MatrixTask}
use Rattle.matrix.specs.Program.{matrix_table}

-- the points at which an operation on copies of a safe bit can be pending
abbrev pub CopiesPoint : Type 0
CopiesPoint = Nested CopiesTask SafePoint

-- the points at which an operation on a regular bit over copies can be pending
abbrev pub RegularPoint : Type 0
RegularPoint = Nested RegularTask CopiesPoint

-- the points at which an operation on a unary number over regular bits can be pending
abbrev pub UnaryPoint : Type 0
UnaryPoint = Nested UnaryTask RegularPoint

-- the points at which an operation on a stamped register can be pending
abbrev pub StampedPoint : Type 0
StampedPoint = Nested StampedTask UnaryPoint

-- the points at which an operation on a matrix can be pending
abbrev pub MatrixPoint : Type 0
MatrixPoint = Nested MatrixTask StampedPoint

-- copies of a safe bit, one for each of `readers` readers
abbrev pub copies_tower : ℕ → Behaviour CopiesPoint
copies_tower readers = layered (copies_table readers 2) safe_behaviour

-- a regular bit over copies of a safe bit, for `readers` readers
abbrev pub regular_tower : ℕ → Behaviour RegularPoint
regular_tower readers = layered (regular_table (readers + 1)) (copies_tower readers)

-- a unary number with the values 0 to `values` - 1, over regular bits, for `readers` readers
abbrev pub unary_tower : ℕ → ℕ → Behaviour UnaryPoint
unary_tower values readers = layered (unary_table values (readers + 1)) (regular_tower readers)

-- a stamped register for one reader, with stamps up to `last`, over a unary number whose values are
-- the codes of the stamped register
abbrev pub stamped_tower : ℕ → ℕ → Behaviour StampedPoint
stamped_tower values last = layered (stamped_table values last) (unary_tower ((last + 1) * values) 1)

-- A matrix of `processes` processes and `values` values, with tags up to `tag`. The matrix is over
-- stamped registers with stamps up to `stamp`. The values of the stamped registers are the codes of
-- the matrix: each code is one number for a tag, a writer and a value.
abbrev pub matrix_tower : ℕ → ℕ → ℕ → ℕ → Behaviour MatrixPoint
matrix_tower processes values tag stamp = layered (matrix_table processes values tag) (stamped_tower ((tag + 1) * processes * values) stamp)
