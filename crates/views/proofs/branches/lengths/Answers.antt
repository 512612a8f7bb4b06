use Rattle.std.proofs.Common.{◌∙◌, ◌≤◌, subst}
use Rattle.schedule_trie.specs.Trie.{forest}
use Rattle.pages.specs.page.Branches.{name_and_length}
use Rattle.views.proofs.BranchLengths.{lengths_more}
use Rattle.pages.proofs.Ranges.{taken_all}
use Rattle.views.proofs.branches.lengths.Goals as goal

pub loop-index-preserved : goal.loop-index-preserved
loop-index-preserved g c = lengths_more (forest c.args.chart.now.trie).branches c.loop-index.index _ _ _ c.loop-index.invariant c.in_ok-push.ensures.items c.length_at.ensures

pub returns : goal.returns
returns g c =
    let branches = (forest c.args.chart.now.trie).branches in
    let i = c.loop-index.index in
    c.new.ensures
    ∙ taken_all name_and_length branches i _ (subst (λ n. n ≤ i) c.branches-index-end.ensures.count c.loop-index-test.false)
    c.loop-index.invariant
