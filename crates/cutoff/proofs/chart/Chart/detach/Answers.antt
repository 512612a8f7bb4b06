use Rattle.std.proofs.Common.{refl}
use Rattle.schedule_trie.specs.Edits.{Detach}
use Rattle.cutoff.proofs.Edited.{charted_edited}
use Rattle.cutoff.proofs.chart.Chart.detach.Goals as goal

pub invariant_of-self : goal.invariant_of-self
invariant_of-self g c =
    rw c.none-self-inside.ensures
    (charted_edited g.R.PartialEq.eq g.R.Behaves.behaviour c.self.inside.next c.self.inside.fresh c.self.inside.mark _ c.detach.new.self (Detach c.args.branch.now) c.detach.result c.self.invariant
    refl c.detach.ensures.ok c.detach.ensures.err)
