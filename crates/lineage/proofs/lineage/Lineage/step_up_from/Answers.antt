use Rattle.std.proofs.Common.{◌≡◌, Some, ◌∙◌, ap}
use Rattle.lineage.specs.Family.{path_in}
use Rattle.lineage.specs.Lineages.{link_in, link_at}
use Rattle.lineage.proofs.ClimbedPaths.{above_is}
use Rattle.lineage.proofs.lineage.Lineage.step_up_from.Goals as goal

pub returns-clause-each : goal.returns-clause-each
returns-clause-each g c i front back e =
    let a = c.self.inside in
    let is = above_is a.nodes.slots a.tips.items i c.args.key front back c.self.invariant (ap (λ f. path_in f i) c.self.view_is ∙ e) in
    let some : link_at a.nodes.slots c.args.key ≡ Some c.index-node.result.now.above = ap link_in c.index-node.ensures in
    cc
