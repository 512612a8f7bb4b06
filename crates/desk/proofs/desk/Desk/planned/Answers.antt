use Rattle.turn.specs.Chairs.{view}
use Rattle.desk.specs.Works.{NeedsBranch}
use Rattle.desk.proofs.Holdings.{made_reading}
use Rattle.desk.proofs.desk.Desk.planned.Goals as goal

pub returns-clause-chair : goal.returns-clause-chair
returns-clause-chair g c = (
  c.with.ensures.turn,
  (made_reading g.R.Behaves.behaviour c.args.self.now.first.value (view c.args.chair.now) (view c.with.new.chair) (λ n world. NeedsBranch c.args.filling.now.branch.now world c.with.result) c.requires.1 c.with.ensures.held).1,
)

pub returns-clause-reads : goal.returns-clause-reads
returns-clause-reads g c =
    (made_reading g.R.Behaves.behaviour c.args.self.now.first.value (view c.args.chair.now) (view c.with.new.chair) (λ n world. NeedsBranch c.args.filling.now.branch.now world c.with.result) c.requires.1 c.with.ensures.held).0
