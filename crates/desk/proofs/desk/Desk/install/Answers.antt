use Rattle.turn.specs.Chairs.{view}
use Rattle.desk.proofs.Holdings.{made_reading, reading_keeps_seen}
use Rattle.desk.proofs.desk.Desk.install.Goals as goal

pub returns-clause-chair : goal.returns-clause-chair
returns-clause-chair g c = (
  c.with.ensures.turn,
  (made_reading g.R.Behaves.behaviour c.args.self.now.first.value (view c.args.chair.now) (view c.with.new.chair) (λ n world. Unit {0}) c.requires.1 c.with.ensures.held).1,
)

pub returns-clause-stays : goal.returns-clause-stays
returns-clause-stays g c =
    reading_keeps_seen g.R.Behaves.behaviour c.args.self.now.first.value (view c.args.chair.now) (view c.with.new.chair) (λ n world. Unit {0})
    (made_reading g.R.Behaves.behaviour c.args.self.now.first.value (view c.args.chair.now) (view c.with.new.chair) (λ n world. Unit {0}) c.requires.1 c.with.ensures.held).0
