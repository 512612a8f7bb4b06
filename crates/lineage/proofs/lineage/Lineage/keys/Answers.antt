use Rattle.std.proofs.Common.{◌≡◌, Option, ℕ, List, sym, ◌∙◌, ap, subst}
use Rattle.std.proofs.lemmas.Result.{IfOk-weaker}
use Rattle.lineage.specs.Family.{path_in}
use Rattle.lineage.specs.Climbs.{Ends}
use Rattle.lineage.specs.Lineages.{tip_at, link_at, path_to}
use Rattle.lineage.proofs.ClimbedPaths.{path_in_is}
use Rattle.lineage.proofs.lineage.Lineage.keys.Goals as goal

pub keys_down_to-requires : goal.keys_down_to-requires
keys_down_to-requires g c =
    let a = c.self.inside in
    let tip : c.get.result ≡ tip_at a.tips.items c.args.path =
    c.get.ensures ∙ c.tip_at.ensures ∙ ap (λ (xs : List (Option ℕ)). tip_at xs c.args.path) c.deref.ensures.value in
    subst (Ends (link_at a.nodes.slots)) (sym tip) (c.self.invariant.ends c.args.path)

pub returns : goal.returns
returns g c =
    let a = c.self.inside in
    let tip : c.get.result ≡ tip_at a.tips.items c.args.path =
    c.get.ensures ∙ c.tip_at.ensures ∙ ap (λ (xs : List (Option ℕ)). tip_at xs c.args.path) c.deref.ensures.value in
    let path : path_to a.nodes.slots c.get.result ≡ path_in c.args.self.now c.args.path =
    ap (path_to a.nodes.slots) tip ∙ sym (path_in_is a.nodes.slots a.tips.items c.args.path) ∙ ap (λ f. path_in f c.args.path) c.self.view_is in
    IfOk-weaker c.keys_down_to.result _ _ (λ keys is. is ∙ path) c.keys_down_to.ensures
