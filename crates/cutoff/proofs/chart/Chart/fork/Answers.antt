use Rattle.cutoff.proofs.Marks.{charted_forked}
use Rattle.cutoff.proofs.chart.Chart.fork.Goals as goal

pub invariant_of-self : goal.invariant_of-self
invariant_of-self g c =
    rw c.none-self-inside.ensures
    (charted_forked g.R.PartialEq.eq g.R.Behaves.behaviour c.self.inside.next c.self.inside.fresh c.self.inside.mark c.mark_after_fork-self-inside.result _ c.fork.new.self c.args.branch.now c.args.place c.args.name c.fork.result
    c.self.invariant c.mark_after_fork-self-inside.ensures c.fork.ensures.ok c.fork.ensures.end c.fork.ensures.err)
