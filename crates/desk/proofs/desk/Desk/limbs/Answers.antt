use Rattle.turn.specs.Chairs.{view}
use Rattle.desk.specs.Works.{IsSaving}
use Rattle.desk.proofs.Holdings.{made_reading}
use Rattle.desk.proofs.desk.Desk.limbs.Goals as goal

pub returns-clause-chair : goal.returns-clause-chair
returns-clause-chair g c = (
  c.with.ensures.turn,
  (made_reading g.R.Behaves.behaviour c.args.self.now.first.value (view c.args.chair.now) (view c.with.new.chair) (λ n world. IsSaving n world c.with.result) c.requires.1 c.with.ensures.held).1,
)

pub returns-clause-saved : goal.returns-clause-saved
returns-clause-saved g c =
    (made_reading g.R.Behaves.behaviour c.args.self.now.first.value (view c.args.chair.now) (view c.with.new.chair) (λ n world. IsSaving n world c.with.result) c.requires.1 c.with.ensures.held).0
