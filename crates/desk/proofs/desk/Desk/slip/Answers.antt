use Rattle.turn.specs.Chairs.{view}
use Rattle.desk.specs.Works.{answer_by}
use Rattle.desk.proofs.Holdings.{made_look, look_no_stray}
use Rattle.desk.proofs.desk.Desk.slip.Goals as goal

pub returns-clause-chair : goal.returns-clause-chair
returns-clause-chair g c = (
  c.with.ensures.turn,
  (made_look g.R.Behaves.behaviour c.args.self.now.first.value (view c.args.chair.now) (view c.with.new.chair) c.args.query c.with.result.0 (answer_by c.with.result.1) c.requires.1 c.with.ensures.held).1,
)

pub returns-clause-looked : goal.returns-clause-looked
returns-clause-looked g c =
    (made_look g.R.Behaves.behaviour c.args.self.now.first.value (view c.args.chair.now) (view c.with.new.chair) c.args.query c.with.result.0 (answer_by c.with.result.1) c.requires.1 c.with.ensures.held).0

pub returns-clause-never_stray : goal.returns-clause-never_stray
returns-clause-never_stray g c =
    look_no_stray g.R.Behaves.behaviour c.args.self.now.first.value (view c.args.chair.now) (view c.with.new.chair) c.args.query c.with.result.0 (answer_by c.with.result.1) c.requires.1 c.with.ensures.held
