use Rattle.std.proofs.Common.{length, sym, ap, ◌∙◌, arith}
use Rattle.std.proofs.lemmas.List.{length-map}
use Rattle.schedule_trie.specs.Trie.{branch_on, segment_at}
use Rattle.schedule_trie.specs.TrieFields.{names_of}
use Rattle.schedule_trie.proofs.branches.NamesApart.{branches_apart}
use Rattle.schedule_trie.proofs.branches.KeyedBranches.{length-keyed_branches}
use Rattle.schedule_trie.proofs.trie.Trie.branches.Goals as goal

pub overflow_cast-result : goal.overflow_cast-result
overflow_cast-result g c =
    let t = c.self.inside in
    let count = c.len.ensures.len ∙ sym (length-map t.branches.entries (λ e. e.0)) ∙ sym (length-keyed_branches (names_of t) t.segments.paths) in
    let w = c.self.invariant.held.whole.within in
    omega (arith, count, w.branches_fit, w.most_branches)

pub returns-clause-count : goal.returns-clause-count
returns-clause-count g c =
    let t = c.self.inside in
    c.len.ensures.len ∙ sym (length-map t.branches.entries (λ e. e.0)) ∙ sym (length-keyed_branches (names_of t) t.segments.paths)
    ∙ ap (λ z. length z.branches) c.self.view_is ∙ sym (length-map c.args.self.now.branches (branch_on (segment_at c.args.self.now.segments)))

pub returns-clause-apart : goal.returns-clause-apart
returns-clause-apart g c = rw (← c.self.view_is) (branches_apart c.self.inside c.len.ensures.unique)
