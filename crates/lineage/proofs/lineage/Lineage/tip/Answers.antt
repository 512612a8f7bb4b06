use Rattle.std.proofs.Common.{◌≡◌, Option, ℕ, List, sym, ◌∙◌, ap}
use Rattle.lineage.specs.Lineages.{tip_at}
use Rattle.lineage.proofs.ClimbedPaths.{last_is}
use Rattle.lineage.proofs.lineage.Lineage.tip.Goals as goal

pub returns : goal.returns
returns g c =
    let a = c.self.inside in
    let tip : c.tip_at.result ≡ tip_at a.tips.items c.args.path =
    c.tip_at.ensures ∙ ap (λ (xs : List (Option ℕ)). tip_at xs c.args.path) c.deref.ensures.value in
    rw (← c.self.view_is) (tip ∙ sym (last_is a.nodes.slots a.tips.items c.args.path c.self.invariant))
