use Rattle.std.proofs.Common.{refl}
use Rattle.schedule_trie.specs.Edits.{Drop}
use Rattle.cutoff.proofs.Edited.{charted_edited}
use Rattle.cutoff.proofs.chart.Chart.drop_branch.Goals as goal

pub invariant_of-self : goal.invariant_of-self
invariant_of-self g c =
    rw c.none-self-inside.ensures
    (charted_edited g.R.PartialEq.eq g.R.Behaves.behaviour c.self.inside.next c.self.inside.fresh c.self.inside.mark _ c.drop_branch.new.self (Drop c.args.branch.now) c.drop_branch.result c.self.invariant
    refl c.drop_branch.ensures.ok c.drop_branch.ensures.err)
