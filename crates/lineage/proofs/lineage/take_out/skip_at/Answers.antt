use Rattle.std.proofs.Common.{◌≡◌, ℕ, Some, sym, ◌∙◌, ap, subst, refl}
use Rattle.std.specs.Prelude.{IsSome}
use Rattle.slab.specs.Slab.{Slab, get, with_value, Updates}
use Rattle.slab.proofs.SlabLemmas.{Updates-with_value}
use Rattle.lineage.specs.declared.node.Node.{Node}
use Rattle.lineage.specs.Lineages.{node, past, past_node}
use Rattle.lineage.proofs.lineage.take_out.skip_at.Goals as goal

written : {X : Type 0} (s : Slab (Node X)) (place : ℕ) (n m : Node X) → Some n ≡ get s place → Updates s (with_value s place m) place (Some m)
written s place n m there = Updates-with_value s place m (subst IsSome there refl)

pub returns-clause-here : goal.returns-clause-here
returns-clause-here g c =
    let m = c.index_mut.result.now in
    let n = c.in-Some.node.now in
    let both : Some n ≡ Some m = c.in-Some.ensures ∙ c.index_mut.ensures.value in
    let same : n ≡ m = cc in
    (written c.args.nodes.now c.args.place n (node m.item c.past-skipped.result m.holders) c.in-Some.ensures).changed
    ∙ ap (λ a. Some (node m.item a m.holders)) (c.past-skipped.ensures ∙ ap (λ o. past c.args.key c.args.above o.above) same)
    ∙ sym (ap (past_node c.args.key c.args.above) c.index_mut.ensures.value)

pub returns-clause-others : goal.returns-clause-others
returns-clause-others g c = (written c.args.nodes.now c.args.place c.in-Some.node.now _ c.in-Some.ensures).others
