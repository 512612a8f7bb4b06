use Rattle.std.proofs.Common.{◌≡◌, ℕ, Option, Some, List, eq-eqb, true≢false, sym, ◌∙◌, ap, subst, refl}
use Rattle.std.specs.Prelude.{IsSome}
use Rattle.std.proofs.lemmas.Bool.{eqb-true}
use Rattle.lineage.specs.Family.{EndsAlone}
use Rattle.lineage.specs.Lineages.{tip_at}
use Rattle.lineage.proofs.ClimbedPaths.{last_is}
use Rattle.lineage.proofs.LoneTips.{tip_node, alone_if_one_holder, one_holder_if_alone}
use Rattle.lineage.proofs.lineage.Lineage.ends_alone.Goals as goal

pub returns-in_default-clause-no : goal.returns-in_default-clause-no
returns-in_default-clause-no g c _ alone =
    let a = c.self.inside in
    let e = subst (λ f. EndsAlone f c.args.path) (sym c.self.view_is) alone in
    let tip : c.get.result ≡ tip_at a.tips.items c.args.path =
    c.get.ensures ∙ c.tip_at.ensures ∙ ap (λ (xs : List (Option ℕ)). tip_at xs c.args.path) c.deref.ensures.value in
    let some : c.get.result ≡ Some e.key = tip ∙ sym (last_is a.nodes.slots a.tips.items c.args.path c.self.invariant) ∙ e.last in
    c.in_default.not-Some e.key some

pub index-requires : goal.index-requires
index-requires g c =
    let a = c.self.inside in
    let tip : tip_at a.tips.items c.args.path ≡ Some c.in-Some.key =
    sym (c.get.ensures ∙ c.tip_at.ensures ∙ ap (λ (xs : List (Option ℕ)). tip_at xs c.args.path) c.deref.ensures.value) ∙ c.in-Some.is in
    let n = tip_node a.nodes.slots a.tips.items c.args.path c.in-Some.key c.self.invariant tip in
    subst IsSome (sym n.1) refl

pub returns-clause-yes : goal.returns-clause-yes
returns-clause-yes g c m =
    let a = c.self.inside in
    let tip : tip_at a.tips.items c.args.path ≡ Some c.in-Some.key =
    sym (c.get.ensures ∙ c.tip_at.ensures ∙ ap (λ (xs : List (Option ℕ)). tip_at xs c.args.path) c.deref.ensures.value) ∙ c.in-Some.is in
    subst (λ f. EndsAlone f c.args.path) c.self.view_is
    (alone_if_one_holder a.nodes.slots a.tips.items c.args.path c.in-Some.key c.index.result.now c.self.invariant tip c.index.ensures (eqb-true c.index.result.now.holders 1 m))

pub returns-clause-no : goal.returns-clause-no
returns-clause-no g c m e =
    let a = c.self.inside in
    let tip : tip_at a.tips.items c.args.path ≡ Some c.in-Some.key =
    sym (c.get.ensures ∙ c.tip_at.ensures ∙ ap (λ (xs : List (Option ℕ)). tip_at xs c.args.path) c.deref.ensures.value) ∙ c.in-Some.is in
    let one = one_holder_if_alone a.nodes.slots a.tips.items c.args.path c.in-Some.key c.index.result.now c.self.invariant tip c.index.ensures
    (subst (λ f. EndsAlone f c.args.path) (sym c.self.view_is) e) in
    true≢false (sym (eq-eqb c.index.result.now.holders 1 one) ∙ m)
