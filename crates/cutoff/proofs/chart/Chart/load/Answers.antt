use Rattle.std.proofs.Common.{◌≡◌, Ok, sym, subst}
use Rattle.schedule_trie.specs.Trie.{forest}
use Rattle.cutoff.proofs.LimbFits.{loaded_fits}
use Rattle.schedule_trie.specs.Limbs.{limbs, loaded}
use Rattle.cutoff.proofs.chart.Chart.load.Goals as goal

pub over-requires-clause-fits : goal.over-requires-clause-fits
over-requires-clause-fits g c =
    loaded_fits (g.R.Behaves.behaviour c.args.register) c.args.limits c.args.limbs.now (forest c.in_ok-trie.trie) c.requires.limbs.fit c.in_ok-trie.ensures.ok

pub returns-clause-forest : goal.returns-clause-forest
returns-clause-forest g c = subst (λ t. loaded c.args.limits c.args.limbs.now ≡ Ok (forest t)) (sym c.in_ok-over.ensures.trie) c.in_ok-trie.ensures.ok

pub returns-clause-again : goal.returns-clause-again
returns-clause-again g c = subst (λ t. limbs (forest t) ≡ c.args.limbs.now) (sym c.in_ok-over.ensures.trie) c.in_ok-trie.ensures.again
