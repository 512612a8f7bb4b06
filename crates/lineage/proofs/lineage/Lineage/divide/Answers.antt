use Rattle.std.proofs.Common.{refl, ◌+◌, sym, ◌∙◌, ap, subst, arith}
use Rattle.std.specs.Prelude.{is_some, IsSome}
use Rattle.std.specs.List.{count_by}
use Rattle.lineage.specs.Lineages.{IsSoundFamily, node_at, node_over, node_under}
use Rattle.lineage.proofs.Forks.{node_there}
use Rattle.lineage.proofs.Divisions.{IsDivided, divided_all}
use Rattle.lineage.proofs.lineage.Lineage.divide.Goals as goal
use Rattle.lineage.proofs.lineage.Lineage.divide.Given.{Over}

pub invariant_of-self : goal.invariant_of-self
invariant_of-self g c = subst (λ s. IsSoundFamily s c.self.inside.tips.items) (sym c.in_err-reserve_node.ensures.slots) c.self.invariant

pub put_above-requires-clause-there : goal.put_above-requires-clause-there
put_above-requires-clause-there g c =
    let a = c.self.inside in
    let n = node_there a.nodes.slots a.tips.items c.args.self.now c.args.key c.self.view_is c.requires in
    subst IsSome (sym (ap (λ s. node_at s c.args.key) c.in_ok-reserve_node.ensures.slots ∙ n.1)) refl

divided : (g : Over) (c : goal.After-put_above g)
    → IsDivided c.self.inside.nodes.slots c.put_above.new.nodes.slots c.self.inside.tips.items c.args.key c.put_above.result c.args.item
divided g c =
    let a = c.self.inside in
    let n = node_there a.nodes.slots a.tips.items c.args.self.now c.args.key c.self.view_is c.requires in
    let same = c.in_ok-reserve_node.ensures.slots in
    let here = c.put_above.ensures in
    let few = c.in_ok-reserve_node.ensures.few in
    let len = c.len.ensures in
    let items = a.tips.ok.0 in
    divided_all a.nodes.slots c.put_above.new.nodes.slots a.tips.items c.args.key c.put_above.result c.args.item n.0 c.self.invariant n.1
    (ap (λ s. node_at s c.put_above.result) (sym same) ∙ here.vacant) (here.fresh ∙ ap (λ s. node_over c.args.item (node_at s c.args.key)) same)
    (here.below ∙ ap (λ s. node_under c.put_above.result (node_at s c.args.key)) same) (λ k ne nf. here.others k ne nf ∙ ap (λ s. node_at s k) same)
    (here.len ∙ ap (λ s. count_by is_some s + 1) same) (omega (arith, few, len, items))

pub invariant_of-self-2 : goal.invariant_of-self-2
invariant_of-self-2 g c = (divided g c).sound

pub returns-clause-item : goal.returns-clause-item
returns-clause-item g c = rw (← c.self.view_is) (divided g c).added

pub returns-clause-paths : goal.returns-clause-paths
returns-clause-paths g c = rw (← c.self.view_is) (divided g c).paths

pub reserve_node-requires : goal.reserve_node-requires
reserve_node-requires g c = let tips = c.self.inside.tips in omega (arith, tips.ok.1, tips.small, c.len.ensures)
