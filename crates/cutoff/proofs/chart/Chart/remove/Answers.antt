use Rattle.std.proofs.Common.{refl}
use Rattle.schedule_trie.specs.Edits.{Remove}
use Rattle.cutoff.proofs.Edited.{charted_edited}
use Rattle.cutoff.proofs.chart.Chart.remove.Goals as goal

pub invariant_of-self : goal.invariant_of-self
invariant_of-self g c =
    rw c.none-self-inside.ensures
    (charted_edited g.R.PartialEq.eq g.R.Behaves.behaviour c.self.inside.next c.self.inside.fresh c.self.inside.mark _ c.remove.new.self (Remove c.args.branch.now c.args.place) c.remove.result c.self.invariant
    refl c.remove.ensures.ok c.remove.ensures.err)
