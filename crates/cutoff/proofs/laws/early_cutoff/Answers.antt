use Rattle.cutoff.proofs.EarlyCutoff.{stops_early}
use Rattle.cutoff.proofs.laws.early_cutoff.Goals as goal

pub returns : goal.returns
returns g c = stops_early g.R.PartialEq.eq (g.R.Behaves.behaviour c.args.chart.now.start.register)
