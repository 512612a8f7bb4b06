use Rattle.views.proofs.Strays.{never_shows_stray}
use Rattle.views.proofs.laws.never_shows_stray.Goals as goal

pub returns : goal.returns
returns g c = never_shows_stray (g.R.Behaves.behaviour c.args.register.now)
