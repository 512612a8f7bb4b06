use Rattle.frames.specs.laws.Steps.{stopped_for_good}
use Rattle.frames.proofs.laws.stopped_for_good.Goals as goal

pub returns : goal.returns
returns g c = λ p d steps h. stopped_for_good (g.R.Behaves.behaviour c.args.register.now) p d steps h
