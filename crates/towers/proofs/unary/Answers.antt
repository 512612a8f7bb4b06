use Rattle.std.proofs.Common.{◌∙◌, ap}
use Rattle.layers.specs.Nested.{layered}
use Rattle.unary_number.specs.Program.{unary_table}
use Rattle.towers.proofs.unary.Goals as goal

pub returns : goal.returns
returns c = rw c.unwrap.ensures at c.new.ensures.built ∙ ap (λ b. layered (unary_table c.args.values b.processes) b) c.regular.ensures
