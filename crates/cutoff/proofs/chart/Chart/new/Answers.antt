use Rattle.std.proofs.Common.{◌≡◌, Ok, sym, subst}
use Rattle.schedule_trie.specs.Forest.{opened}
use Rattle.schedule_trie.specs.Trie.{forest}
use Rattle.cutoff.proofs.FittingSteps.{opened_fits}
use Rattle.cutoff.proofs.chart.Chart.new.Goals as goal

pub over-requires-clause-fits : goal.over-requires-clause-fits
over-requires-clause-fits g c =
    opened_fits (g.R.Behaves.behaviour c.args.register) c.args.limits c.args.steps.now (forest c.in_ok-trie.trie) c.requires.fits c.in_ok-trie.ensures.ok

pub returns-clause-forest : goal.returns-clause-forest
returns-clause-forest g c = subst (λ t. opened c.args.limits c.args.steps.now ≡ Ok (forest t)) (sym c.in_ok-over.ensures.trie) c.in_ok-trie.ensures.ok
