use Rattle.std.proofs.Common.{[], ◌∷◌, ◌++◌, sym, ◌∙◌, ap, subst, arith}
use Rattle.std.specs.Prelude.{IfSome, IsSome}
use Rattle.lineage.specs.Family.{item_at}
use Rattle.lineage.proofs.Forks.{forked_sound, forked, few_holders, some_there}
use Rattle.lineage.proofs.lineage.Lineage.fork.Goals as goal

pub hold-requires-clause-there : goal.hold-requires-clause-there
hold-requires-clause-there g c =
    let a = c.self.inside in
    some_there a.nodes.slots a.tips.items c.args.key (subst (λ f. IfSome c.args.key (λ k. IsSome (item_at f k))) (sym c.self.view_is) c.requires)

pub hold-requires-clause-few : goal.hold-requires-clause-few
hold-requires-clause-few g c k n is e =
    let few = c.in_ok-reserve_tip.ensures.few in
    let nodes = c.len.ensures in
    few_holders c.self.inside.nodes.slots c.self.inside.tips.items k n c.self.invariant e (omega (arith, few, nodes))

pub invariant_of-self-2 : goal.invariant_of-self-2
invariant_of-self-2 g c =
    let a = c.self.inside in
    let few = c.in_ok-reserve_tip.ensures.few in
    let nodes = c.len.ensures in
    forked_sound a.nodes.slots c.hold.new.nodes.slots a.tips.items c.push_reserved.new.self.items c.args.key c.self.invariant
    (subst (λ f. IfSome c.args.key (λ k. IsSome (item_at f k))) (sym c.self.view_is) c.requires) c.hold.ensures.nodes
    (c.push_reserved.ensures.items ∙ ap (λ e. c.reserve_tip.new.tips.items ++ e ∷ []) c.optional_key.ensures ∙ ap (λ xs. xs ++ c.args.key ∷ []) c.in_ok-reserve_tip.ensures.items)
    c.hold.ensures.len (omega (arith, few, nodes))

pub returns-clause-ok : goal.returns-clause-ok
returns-clause-ok g c =
    let a = c.self.inside in
    rw (← c.self.view_is) (forked a.nodes.slots c.hold.new.nodes.slots a.tips.items c.push_reserved.new.self.items c.args.key c.self.invariant
    (subst (λ f. IfSome c.args.key (λ k. IsSome (item_at f k))) (sym c.self.view_is) c.requires) c.hold.ensures.nodes
    (c.push_reserved.ensures.items ∙ ap (λ e. c.reserve_tip.new.tips.items ++ e ∷ []) c.optional_key.ensures ∙ ap (λ xs. xs ++ c.args.key ∷ []) c.in_ok-reserve_tip.ensures.items) c.hold.ensures.slots)
