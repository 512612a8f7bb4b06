use Rattle.std.proofs.Common.{IfOk, subst}
use Rattle.desk.specs.Chairs.{IsNewDesk}
use Rattle.desk.proofs.desk.Desk.open_limbs.Goals as goal

pub returns-clause-new : goal.returns-clause-new
returns-clause-new g c =
    subst (λ first. IfOk c.over.result (λ r. IsNewDesk g.R.Behaves.behaviour first r.0 r.1)) c.in_ok-book.ensures.new.opening c.over.ensures.new
