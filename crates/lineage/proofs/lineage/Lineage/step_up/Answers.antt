use Rattle.std.proofs.Common.{◌≡◌, Some, sym, ◌∙◌, ap}
use Rattle.std.specs.Option.{option_map}
use Rattle.lineage.specs.Family.{path_in, item_at}
use Rattle.lineage.specs.Lineages.{item_in, link_in, link_at}
use Rattle.lineage.proofs.ClimbedPaths.{above_is, item_is}
use Rattle.lineage.proofs.lineage.Lineage.step_up.Goals as goal

pub returns-clause-each : goal.returns-clause-each
returns-clause-each g c i front back e =
    let a = c.self.inside in
    let is = above_is a.nodes.slots a.tips.items i c.args.key front back c.self.invariant (ap (λ f. path_in f i) c.self.view_is ∙ e) in
    let some : link_at a.nodes.slots c.args.key ≡ Some c.in_ok-node.node.now.above = ap link_in (sym c.in_ok-node.ensures) in
    cc

pub returns-clause-item : goal.returns-clause-item
returns-clause-item g c =
    let a = c.self.inside in
    sym (ap (λ f. item_at f c.args.key) (sym c.self.view_is) ∙ item_is a.nodes.slots a.tips.items c.args.key
    ∙ ap item_in (sym c.in_ok-node.ensures))

pub returns-in_err-node-clause-item : goal.returns-in_err-node-clause-item
returns-in_err-node-clause-item g c =
    let a = c.self.inside in
    ap (option_map (λ s. s.0.now)) c.from_residual.ensures
    ∙ sym (ap (λ f. item_at f c.args.key) (sym c.self.view_is) ∙ item_is a.nodes.slots a.tips.items c.args.key
    ∙ ap item_in (sym c.in_err-node.ensures))
