use Rattle.std.proofs.Common.{◌∙◌, ap}
use Rattle.layers.specs.Nested.{layered}
use Rattle.regular_bit.specs.Program.{regular_table}
use Rattle.towers.proofs.regular.Goals as goal

pub returns : goal.returns
returns c = rw c.unwrap.ensures at c.new.ensures.built ∙ ap (λ b. layered (regular_table b.processes) b) c.copies.ensures
