use Rattle.std.proofs.Common.{◌≡◌, subst}
use Rattle.std.specs.Prelude.{IfOk}
use Rattle.layers.specs.Nested.{layered}
use Rattle.unary_number.specs.Program.{unary_table}
use Rattle.unary_number.proofs.rules.UnaryNewUnary.new.Goals as goal

pub returns-clause-built : goal.returns-clause-built
returns-clause-built g c =
    subst (λ n. IfOk c.over.result (λ r. layered (unary_table r.layer.values r.layer.processes) (g.S.Behaves.behaviour r.below) ≡ layered (unary_table c.args.values n) (g.S.Behaves.behaviour c.args.below)))
    c.processes-processes.ensures c.over.ensures.built
