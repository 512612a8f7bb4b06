use Rattle.std.proofs.Common.{ℕ}
use Rattle.safe_bit.specs.Memory.{Memory}
use Rattle.frames.specs.declared.types.Op.{Op}
use Rattle.frames.specs.Behaviour.{Behaviour, IsLawful}
use Rattle.frames.specs.correctness.Regularity.{IsRegular}
use Rattle.frames.specs.correctness.Ranks.{IsAtomicForMany}
use Rattle.layers.specs.Nested.{layered}
use Rattle.layers.specs.Sound.{IsSoundTable, FitsBelow, LayerHolds, LayerReaches}
use Rattle.layers.specs.laws.Over.{over}
use Rattle.layers.specs.laws.Layered.{layer_lawful}
use Rattle.matrix.specs.declared.task.MatrixTask.{MatrixTask}
use Rattle.matrix.specs.Program.{matrix_table, MatrixMayBeAt}
use Rattle.matrix.specs.Rows.{RefusesNoRow}
use Rattle.matrix.specs.laws.Sound.{matrix_sound}
use Rattle.matrix.proofs.Kept.{matrix_over_counted, rows_are_whole}
use Rattle.stamped.specs.declared.task.StampedTask.{StampedTask}
use Rattle.stamped.specs.Program.{stamped_table, StampedMayBeAt}
use Rattle.stamped.specs.laws.Sound.{stamped_sound}
use Rattle.stamped.proofs.ByCount.{has_stamp_left, stamped_admits}
use Rattle.towers.proofs.laws.matrix_over_stamped.Goals as goal

-- the matrix is atomic for many processes, and refuses no operation while it writes its row
over_stamped : {P : Type 0} {b : Behaviour P} {Keeps : Memory → Type 0} {Reaches : ℕ → Op → P → Type 0} {left : MatrixTask → ℕ} {stamped_left : StampedTask → ℕ} (n V tags codes last : ℕ)
    → IsLawful b Keeps Reaches
    → IsSoundTable (stamped_table codes last) (StampedMayBeAt codes last) stamped_left → FitsBelow (stamped_table codes last) b
    → IsSoundTable (matrix_table n V tags) (MatrixMayBeAt n V tags) left → FitsBelow (matrix_table n V tags) (layered (stamped_table codes last) b)
    → IsRegular b → IsAtomicForMany (layered (matrix_table n V tags) (layered (stamped_table codes last) b)) × RefusesNoRow (layered (matrix_table n V tags) (layered (stamped_table codes last) b))
over_stamped {b = b} {Keeps = Keeps} {Reaches = Reaches} {left = left} {stamped_left = stamped_left} n V tags codes last lawful sound_below fit_below sound fit regular =
    let below = layered (stamped_table codes last) b in
    let Holds = LayerHolds (stamped_table codes last) b Keeps in
    let Reached = LayerReaches (stamped_table codes last) (StampedMayBeAt codes last) Reaches in
    let is_lawful = layer_lawful (over lawful sound_below fit_below) in
    let admits = stamped_admits b Keeps Reaches codes last stamped_left lawful sound_below fit_below regular in
    (matrix_over_counted below Holds Reached (has_stamp_left last) n V tags left is_lawful sound fit admits, rows_are_whole below Holds Reached (has_stamp_left last) n V tags left is_lawful sound fit admits)

pub returns-clause-atomic : goal.returns-clause-atomic
returns-clause-atomic g c =
    let r = c.args.register.now in
    let s = r.below in
    (over_stamped r.layer.n r.layer.values r.layer.last s.layer.values s.layer.last (g.met.S.Register.lawful s.below) (stamped_sound s.layer.values s.layer.last s.layer.some) s.fit (matrix_sound r.layer.n r.layer.values r.layer.last r.layer.some r.layer.some_values) r.fit c.requires).0

pub returns-clause-rows : goal.returns-clause-rows
returns-clause-rows g c =
    let r = c.args.register.now in
    let s = r.below in
    (over_stamped r.layer.n r.layer.values r.layer.last s.layer.values s.layer.last (g.met.S.Register.lawful s.below) (stamped_sound s.layer.values s.layer.last s.layer.some) s.fit (matrix_sound r.layer.n r.layer.values r.layer.last r.layer.some r.layer.some_values) r.fit c.requires).1
