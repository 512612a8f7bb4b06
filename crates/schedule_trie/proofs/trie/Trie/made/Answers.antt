use Rattle.std.proofs.Common.{◌≤◌, length, subst}
use Rattle.schedule_trie.specs.Trie.{keys_in}
use Rattle.schedule_trie.proofs.climbs.ClimbSteps.{path_few}
use Rattle.schedule_trie.proofs.trie.Trie.made.Goals as goal

pub returns-clause-few : goal.returns-clause-few
returns-clause-few g c i = subst (λ z. length (keys_in z.branches i) ≤ c.self.inside.made) c.self.view_is (path_few c.self.inside c.self.invariant.held i)
