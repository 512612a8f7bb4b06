use Rattle.std.proofs.Common.{◌≡◌, subst}
use Rattle.std.specs.Prelude.{IfOk}
use Rattle.layers.specs.Nested.{layered}
use Rattle.reader_copies.specs.Program.{copies_table}
use Rattle.reader_copies.proofs.rules.CopiesNewCopies.new.Goals as goal

pub returns-clause-built : goal.returns-clause-built
returns-clause-built g c =
    subst (λ n. IfOk c.over.result (λ r. layered (copies_table r.layer.readers r.layer.values) (g.S.Behaves.behaviour r.below) ≡ layered (copies_table c.args.readers n) (g.S.Behaves.behaviour c.args.below)))
    c.values.ensures c.over.ensures.built
