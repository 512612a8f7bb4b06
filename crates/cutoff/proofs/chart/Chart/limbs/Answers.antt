use Rattle.std.proofs.Common.{sym, subst}
use Rattle.schedule_trie.specs.Trie.{forest}
use Rattle.cutoff.specs.Charts.{StepsFit}
use Rattle.cutoff.proofs.LimbFits.{limbs_fit}
use Rattle.cutoff.proofs.chart.Chart.limbs.Goals as goal

pub returns-clause-fit : goal.returns-clause-fit
returns-clause-fit g c =
    let is = g.R.Behaves.behaviour in
    let fit = subst (λ z. StepsFit (is z.start.register) (forest z.trie)) (sym c.self.view_is) c.lemma_steps_fit.ensures.fit in
    rw (← c.self.view_is) (limbs_fit (is c.self.inside.start.register) (forest c.self.inside.trie) (λ r. r.items) c.limbs.result fit c.limbs.ensures.limbs)
