use Rattle.std.proofs.Common.{◌≡◌, Some, sym, ◌∙◌, ap}
use Rattle.lineage.specs.Family.{path_in, item_at}
use Rattle.lineage.specs.Lineages.{item_in, link_in, link_at}
use Rattle.lineage.proofs.ClimbedPaths.{above_is, item_is}
use Rattle.lineage.proofs.lineage.Lineage.climb_step.Goals as goal

pub returns-clause-each : goal.returns-clause-each
returns-clause-each g c i front back e =
    let a = c.self.inside in
    let is = above_is a.nodes.slots a.tips.items i c.at.inside.word front back c.self.invariant (ap (λ f. path_in f i) c.self.view_is ∙ e) in
    let some : link_at a.nodes.slots c.at.inside.word ≡ Some c.in_ok-node.node.now.above = ap link_in (sym c.in_ok-node.ensures) in
    cc

pub returns-clause-item : goal.returns-clause-item
returns-clause-item g c =
    let a = c.self.inside in
    ap (λ f. item_at f c.at.inside.word) (sym c.self.view_is) ∙ item_is a.nodes.slots a.tips.items c.at.inside.word
    ∙ ap item_in (sym c.in_ok-node.ensures)
