use Rattle.pages.proofs.Linearizations.{linearizes}
use Rattle.pages.proofs.laws.linearizable.Goals as goal

pub returns : goal.returns
returns g c = linearizes (g.R.Behaves.behaviour c.args.register.now) c.requires
