use Rattle.std.proofs.Common.{◌≡◌, ◌+◌, ◌<◌, ◌^◌, [], ◌∷◌, ◌++◌, Some, length, refl, sym, ◌∙◌, ap, subst}
use Rattle.std.specs.Prelude.{is_some, IsSome}
use Rattle.std.specs.List.{count_by}
use Rattle.lineage.specs.declared.node.Node.{Node}
use Rattle.lineage.specs.Lineages.{node_at, node_over, node_under}
use Rattle.lineage.proofs.Forks.{node_there}
use Rattle.lineage.proofs.ForksAbove.{above_sound, forked_above}
use Rattle.lineage.proofs.lineage.Lineage.fork_above.Goals as goal
use Rattle.lineage.proofs.lineage.Lineage.fork_above.Given.{Over}

there : (g : Over) (c : goal.After-push_reserved g) → (n : Node g.row.X.Denot) × (node_at c.self.inside.nodes.slots c.args.key ≡ Some n)
there g c =
    let a = c.self.inside in
    node_there a.nodes.slots a.tips.items c.args.self.now c.args.key c.self.view_is c.requires

room : (g : Over) (c : goal.After-push_reserved g) → length c.self.inside.tips.items + 1 + (count_by is_some c.self.inside.nodes.slots + 1) < 2 ^ 64
room g c = c.in_ok-reserve_path.ensures.few

pub invariant_of-self-2 : goal.invariant_of-self-2
invariant_of-self-2 g c =
    let a = c.self.inside in
    let same = c.in_ok-reserve_path.ensures.slots in
    let here = c.put_above-fresh.ensures in
    let n = there g c in
    above_sound a.nodes.slots c.put_above-fresh.new.nodes.slots c.hold.new.nodes.slots a.tips.items c.push_reserved.new.self.items c.args.key c.put_above-fresh.result c.args.item n.0
    c.self.invariant n.1 (ap (λ s. node_at s c.put_above-fresh.result) (sym same) ∙ here.vacant) (here.fresh ∙ ap (λ s. node_over c.args.item (node_at s c.args.key)) same)
    (here.below ∙ ap (λ s. node_under c.put_above-fresh.result (node_at s c.args.key)) same) (λ k ne nf. here.others k ne nf ∙ ap (λ s. node_at s k) same)
    (here.len ∙ ap (λ s. count_by is_some s + 1) same) (room g c) c.hold.ensures.nodes
    (c.push_reserved.ensures.items ∙ ap (λ e. c.reserve_path.new.tips.items ++ e ∷ []) c.of.ensures
    ∙ ap (λ xs. xs ++ Some c.put_above-fresh.result ∷ []) c.in_ok-reserve_path.ensures.items) c.hold.ensures.len

pub returns-clause-ok : goal.returns-clause-ok
returns-clause-ok g c =
    let a = c.self.inside in
    let same = c.in_ok-reserve_path.ensures.slots in
    let here = c.put_above-fresh.ensures in
    let n = there g c in
    rw (← c.self.view_is) (forked_above a.nodes.slots c.put_above-fresh.new.nodes.slots c.hold.new.nodes.slots a.tips.items c.push_reserved.new.self.items c.args.key c.put_above-fresh.result c.args.item n.0
    c.self.invariant n.1 (ap (λ s. node_at s c.put_above-fresh.result) (sym same) ∙ here.vacant) (here.fresh ∙ ap (λ s. node_over c.args.item (node_at s c.args.key)) same)
    (here.below ∙ ap (λ s. node_under c.put_above-fresh.result (node_at s c.args.key)) same) (λ k ne nf. here.others k ne nf ∙ ap (λ s. node_at s k) same)
    (here.len ∙ ap (λ s. count_by is_some s + 1) same) (room g c) c.hold.ensures.nodes
    (c.push_reserved.ensures.items ∙ ap (λ e. c.reserve_path.new.tips.items ++ e ∷ []) c.of.ensures
    ∙ ap (λ xs. xs ++ Some c.put_above-fresh.result ∷ []) c.in_ok-reserve_path.ensures.items) c.hold.ensures.slots)

pub put_above-fresh-requires-clause-there : goal.put_above-fresh-requires-clause-there
put_above-fresh-requires-clause-there g c =
    let a = c.self.inside in
    let n = node_there a.nodes.slots a.tips.items c.args.self.now c.args.key c.self.view_is c.requires in
    subst IsSome (sym (ap (λ s. node_at s c.args.key) c.in_ok-reserve_path.ensures.slots ∙ n.1)) refl
