use Rattle.turn.specs.Chairs.{view}
use Rattle.desk.proofs.Holdings.{received}
use Rattle.desk.proofs.desk.Desk.act.Goals as goal

pub returns-clause-chair : goal.returns-clause-chair
returns-clause-chair g c = (
  c.with.ensures.turn,
  (received g.R.Behaves.behaviour c.args.self.now.first.value (view c.args.chair.now) (view c.with.new.chair) c.args.session c.args.if_at c.args.command.now c.with.result c.requires.1 c.with.ensures.held).1,
)

pub returns-clause-received : goal.returns-clause-received
returns-clause-received g c =
    (received g.R.Behaves.behaviour c.args.self.now.first.value (view c.args.chair.now) (view c.with.new.chair) c.args.session c.args.if_at c.args.command.now c.with.result c.requires.1 c.with.ensures.held).0
