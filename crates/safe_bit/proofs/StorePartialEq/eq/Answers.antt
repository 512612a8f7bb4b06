use Rattle.std.proofs.Common.{rules, ◌≡◌}
use Rattle.std.proofs.lemmas.Bool.Decides.{Decides-at}
use Rattle.safe_bit.specs.laws.Equality.{memory_eq, memory_decides}
use Rattle.safe_bit.proofs.StorePartialEq.eq.Goals as goal

pub returns-then-eq-clause-same : goal.returns-then-eq-clause-same
returns-then-eq-clause-same c =
    let e : c.eq-then-eq.result ≡ memory_eq c.args.self.now c.args.other.now = search rules in
    Decides-at _ _ e (memory_decides c.args.self.now c.args.other.now)

pub returns-else-eq-clause-same : goal.returns-else-eq-clause-same
returns-else-eq-clause-same c =
    let e : c.eq.result ≡ memory_eq c.args.self.now c.args.other.now = search rules in
    Decides-at _ _ e (memory_decides c.args.self.now c.args.other.now)
