use Rattle.cutoff.proofs.NewCharts.{charted_new}
use Rattle.cutoff.proofs.chart.Chart.over.Goals as goal

pub invariant_of-result : goal.invariant_of-result
invariant_of-result g c =
    rw c.none.ensures
    (charted_new g.R.PartialEq.eq g.R.Behaves.behaviour c.args.register c.args.value c.args.trie c.in_ok-start.start c.requires.value c.requires.fits
    c.requires.cut c.requires.blank c.in_ok-start.ensures)
