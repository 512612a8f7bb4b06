use Rattle.std.proofs.Common.{length, subst, ◌∙◌, sym, ◌≡◌}
use Rattle.branch_terms.specs.Forest.{slots_in}
use Rattle.schedule_trie.specs.Trie.{forest, IsWhole}
use Rattle.schedule_trie.specs.TrieFields.{trie_of}
use Rattle.schedule_trie.proofs.lengths.Lengths.{cached_is}
use Rattle.schedule_trie.proofs.trie.Trie.len_at.Goals as goal

pub returns-in-Some-clause-len : goal.returns-in-Some-clause-len
returns-in-Some-clause-len g c =
    let t = c.self.inside in
    subst (λ z. c.in-Some.len ≡ length (slots_in (forest z).branches c.args.index)) c.self.view_is
    (cached_is t.branches.entries (forest (trie_of t)).branches c.args.index c.in-Some.len c.self.invariant.lengths (sym c.in-Some.is ∙ c.cached_len.ensures))

pub returns-in-Some-clause-whole : goal.returns-in-Some-clause-whole
returns-in-Some-clause-whole g c = subst IsWhole c.self.view_is c.self.invariant.held.whole

pub returns-in-None-clause-whole : goal.returns-in-None-clause-whole
returns-in-None-clause-whole g c = subst IsWhole c.self.view_is c.self.invariant.held.whole
