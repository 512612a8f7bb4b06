use Rattle.std.proofs.Common.{ap, ◌∙◌}
use Rattle.branch_terms.specs.Limbs.{limbs}
use Rattle.branch_terms.proofs.LimbsAgain.{forest_count, forest_made, limbs_again}
use Rattle.std.proofs.Common.{length}
use Rattle.schedule_trie.proofs.trie.Trie.load.Goals as goal

pub returns-clause-again : goal.returns-clause-again
returns-clause-again g c = ap limbs c.in_ok-with_limbs.ensures.forest ∙ limbs_again c.args.limbs.now c.requires.lawful

pub returns-clause-made : goal.returns-clause-made
returns-clause-made g c = ap (λ f. f.made) c.in_ok-with_limbs.ensures.forest ∙ forest_made c.args.limbs.now

pub returns-clause-count : goal.returns-clause-count
returns-clause-count g c = ap (λ f. length f.branches) c.in_ok-with_limbs.ensures.forest ∙ forest_count c.args.limbs.now
