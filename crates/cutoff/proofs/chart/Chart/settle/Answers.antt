use Rattle.std.proofs.Common.{◌≡◌, sym, ap, ◌∙◌}
use Rattle.schedule_trie.specs.Forest.{index_of}
use Rattle.schedule_trie.specs.Trie.{forest}
use Rattle.cutoff.proofs.Parts.{read_settled}
use Rattle.cutoff.proofs.NamedBranches.{look_found}
use Rattle.cutoff.proofs.chart.Chart.settle.Goals as goal

pub unreachable-requires : goal.unreachable-requires
unreachable-requires g c =
    let same : forest c.args.self.now.trie ≡ forest c.self.inside.trie = sym c.settle_last.ensures.keeps.forest_kept ∙ ap (λ v. forest v.trie) (sym c.self.view_is) in
    look_found (forest c.args.self.now.trie) _ c.args.branch.now c.args.place c.in_ok-last.ensures.found (c.in_default.ensures.index ∙ ap (λ f. index_of f.branches c.args.branch.now) (sym same))

pub returns-clause-ok : goal.returns-clause-ok
returns-clause-ok g c =
    read_settled g.R.PartialEq.eq (g.R.Behaves.behaviour c.args.self.now.start.register) c.args.self.now c.settle_last.new.self _ c.self.inside.trie c.self.inside.start c.self.inside.value c.self.view_is
    c.settle_last.ensures.keeps c.args.branch.now c.args.place c.in-Some.index c.deref.result.now _ _ c.in_ok-last.last.replayed (sym c.in-Some.ensures.index) (c.deref.ensures.value ∙ c.in_ok-keys.ensures.keys)
    c.in_ok-runs.ensures c.in_ok-last.ensures.ok
