use Rattle.std.proofs.Common.{sym, subst}
use Rattle.schedule_trie.specs.Trie.{IsBlank, IsCut}
use Rattle.schedule_trie.proofs.trie.Trie.with_steps.Goals as goal

pub with_empty_branch-requires-clause-limits : goal.with_empty_branch-requires-clause-limits
with_empty_branch-requires-clause-limits g c = c.requires.limits

pub returns-clause-cut : goal.returns-clause-cut
returns-clause-cut g c =
    subst IsCut (sym c.cache_len.ensures.same) (c.in_ok-push_all.ensures.cut c.in_ok-trie.ensures.cut)

pub returns-clause-blank : goal.returns-clause-blank
returns-clause-blank g c =
    subst IsBlank (sym c.cache_len.ensures.same) (c.in_ok-push_all.ensures.blank c.in_ok-trie.ensures.blank)
