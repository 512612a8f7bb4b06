use Rattle.schedule_trie.proofs.branches.Shared.{is_forest}
use Rattle.schedule_trie.proofs.branches.NamesKept.{have_names}
use Rattle.std.proofs.Common.{subst}
use Rattle.schedule_trie.specs.Trie.{IsWhole}
use Rattle.schedule_trie.proofs.trie.Trie.lemma_invariant.Goals as goal

pub returns-clause-forest : goal.returns-clause-forest
returns-clause-forest g c = rw (← c.self.view_is) (is_forest c.self.inside c.self.invariant.held c.len-count.ensures.unique)

pub returns-clause-names : goal.returns-clause-names
returns-clause-names g c = rw (← c.self.view_is) (have_names c.self.inside c.self.invariant.names)

pub returns-clause-whole : goal.returns-clause-whole
returns-clause-whole g c = subst IsWhole c.self.view_is c.self.invariant.held.whole
