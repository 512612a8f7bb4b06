use Rattle.std.proofs.Common.{sym, ◌∙◌, ap}
use Rattle.std.specs.Option.{option_copied}
use Rattle.lineage.specs.Family.{item_at}
use Rattle.lineage.specs.Lineages.{item_in}
use Rattle.lineage.proofs.ClimbedPaths.{item_is}
use Rattle.lineage.proofs.lineage.Lineage.item.Goals as goal

pub returns : goal.returns
returns g c =
    let a = c.self.inside in
    sym (ap (λ f. item_at f c.args.key) (sym c.self.view_is) ∙ item_is a.nodes.slots a.tips.items c.args.key
    ∙ ap item_in (sym c.in_ok-node.ensures))

pub returns-in_err-node : goal.returns-in_err-node
returns-in_err-node g c =
    let a = c.self.inside in
    ap option_copied c.from_residual.ensures
    ∙ sym (ap (λ f. item_at f c.args.key) (sym c.self.view_is) ∙ item_is a.nodes.slots a.tips.items c.args.key
    ∙ ap item_in (sym c.in_err-node.ensures))
