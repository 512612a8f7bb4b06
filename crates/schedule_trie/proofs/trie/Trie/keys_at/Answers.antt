use Rattle.std.proofs.Common.{◌≡◌, ◌≤◌, length, subst, arith}
use Rattle.std.proofs.lemmas.Result.{IfOk-weaker}
use Rattle.lineage.specs.Family.{path_in}
use Rattle.schedule_trie.specs.Trie.{line, segment_at, keys_in}
use Rattle.schedule_trie.proofs.branches.Lines.{keys_by_fields}
use Rattle.schedule_trie.proofs.trie.Trie.keys_at.Goals as goal
use Rattle.branch_terms.specs.declared.limits.TheConstants.{MOST_CELLS_MADE}

pub returns-clause-keys : goal.returns-clause-keys
returns-clause-keys g c =
    IfOk-weaker c.keys.result (λ keys. keys.items ≡ path_in c.self.inside.segments c.args.index) (λ keys. keys.items ≡ keys_in c.args.self.now.branches c.args.index)
    (λ keys e. subst (λ z. keys.items ≡ keys_in z.branches c.args.index) c.self.view_is (keys_by_fields c.self.inside c.self.invariant.held c.args.index keys.items e).0) c.keys.ensures

pub returns-clause-short : goal.returns-clause-short
returns-clause-short g c =
    IfOk-weaker c.keys.result (λ keys. keys.items ≡ path_in c.self.inside.segments c.args.index) (λ keys. length (line (segment_at c.args.self.now.segments) keys.items) ≤ c.args.self.now.made)
    (λ keys e. subst (λ z. length (line (segment_at z.segments) keys.items) ≤ z.made) c.self.view_is (keys_by_fields c.self.inside c.self.invariant.held c.args.index keys.items e).1) c.keys.ensures

pub returns-clause-made : goal.returns-clause-made
returns-clause-made g c =
    let w = c.self.invariant.held.whole.within in
    subst (λ z. z.made ≤ MOST_CELLS_MADE) c.self.view_is (omega (arith, w.cells, w.most_cells))
