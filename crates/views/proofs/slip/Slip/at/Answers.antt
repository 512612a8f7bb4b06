use Rattle.views.proofs.Strays.{slip_shows_no_stray}
use Rattle.views.proofs.slip.Slip.at.Goals as goal

pub returns-in-Verdict-clause-never_stray : goal.returns-in-Verdict-clause-never_stray
returns-in-Verdict-clause-never_stray g c = λ lawful.
    slip_shows_no_stray (g.R.Behaves.behaviour c.args.chart.now.start.register) lawful c.events_slip-in-Verdict.result c.events_slip-in-Verdict.ensures.look.judges
