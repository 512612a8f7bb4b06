use Rattle.std.proofs.Common.{◌∙◌, ap}
use Rattle.layers.specs.Nested.{layered}
use Rattle.frames.specs.Behaviour.{Behaviour}
use Rattle.towers.specs.Towers.{StampedPoint}
use Rattle.matrix.specs.Program.{matrix_table}
use Rattle.matrix.specs.Limits.{matrix_refusal}
use Rattle.towers.specs.laws.Built.{matrix_fits, ok_unless_refused}
use Rattle.towers.proofs.matrix.Goals as goal

pub unwrap-requires : goal.unwrap-requires
unwrap-requires c =
    let is_value =
    ap (λ (b : Behaviour StampedPoint). matrix_refusal c.args.processes c.args.values c.args.tag b) c.stamped-part.ensures
    ∙ matrix_fits c.args.processes c.args.values c.args.tag c.args.stamp c.requires.two c.requires.four c.requires.some c.requires.few c.requires.tags c.requires.most c.requires.cells in
    ok_unless_refused _ c.new.result _ is_value c.new.ensures.refused

pub returns : goal.returns
returns c = rw c.unwrap.ensures at c.new.ensures.built ∙ ap (layered (matrix_table c.args.processes c.args.values c.args.tag)) c.stamped-part.ensures
