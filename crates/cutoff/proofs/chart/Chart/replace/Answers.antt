use Rattle.std.proofs.Common.{◌≡◌, true, sym, subst}
use Rattle.frames.specs.Configuration.{fits_step}
use Rattle.schedule_trie.specs.Edits.{Replace}
use Rattle.cutoff.proofs.Edited.{charted_edited}
use Rattle.cutoff.proofs.chart.Chart.replace.Goals as goal

pub invariant_of-self : goal.invariant_of-self
invariant_of-self g c =
    rw c.none-self-inside.ensures
    (charted_edited g.R.PartialEq.eq g.R.Behaves.behaviour c.self.inside.next c.self.inside.fresh c.self.inside.mark _ c.replace.new.self (Replace c.args.branch.now c.args.place c.args.step) c.replace.result c.self.invariant
    (subst (λ v. fits_step (g.R.Behaves.behaviour v.start.register) c.args.step ≡ true) (sym c.self.view_is) c.requires) c.replace.ensures.ok c.replace.ensures.err)
