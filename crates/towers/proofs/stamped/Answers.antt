use Rattle.std.proofs.Common.{◌∙◌, ap}
use Rattle.layers.specs.Nested.{layered}
use Rattle.stamped.specs.Program.{stamped_table}
use Rattle.towers.proofs.stamped.Goals as goal

pub returns : goal.returns
returns c = rw c.unwrap.ensures at c.new.ensures.built ∙ ap (layered (stamped_table c.args.values c.args.last)) c.unary-codes.ensures
