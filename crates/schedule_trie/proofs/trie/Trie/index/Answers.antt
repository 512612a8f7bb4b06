use Rattle.std.proofs.Common.{◌<◌, length, sym, ap, subst, ◌∙◌}
use Rattle.std.specs.Option.{IfSome}
use Rattle.std.proofs.lemmas.List.{length-map}
use Rattle.schedule_trie.specs.TrieFields.{names_of}
use Rattle.schedule_trie.proofs.branches.Lines.{index_is}
use Rattle.schedule_trie.proofs.branches.KeyedBranches.{length-keyed_branches}
use Rattle.schedule_trie.proofs.trie.Trie.index.Goals as goal

pub returns-clause-index : goal.returns-clause-index
returns-clause-index g c = rw (← c.self.view_is) (c.get_index_of.ensures.index ∙ sym (index_is c.self.inside c.args.branch.now))

pub returns-clause-within : goal.returns-clause-within
returns-clause-within g c =
    let t = c.self.inside in
    let count = sym (length-map t.branches.entries (λ e. e.0)) ∙ sym (length-keyed_branches (names_of t) t.segments.paths) ∙ ap (λ z. length z.branches) c.self.view_is in
    subst (λ n. IfSome c.get_index_of.result (λ i. i < n)) count c.get_index_of.ensures.within
