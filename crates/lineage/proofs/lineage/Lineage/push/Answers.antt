use Rattle.std.proofs.Common.{◌≡◌, ◌+◌, length, map, sym, ◌∙◌, ap, subst, arith}
use Rattle.std.proofs.lemmas.List.{length-map}
use Rattle.std.specs.Prelude.{is_some}
use Rattle.std.specs.List.{count_by}
use Rattle.lineage.specs.Lineages.{IsSoundFamily, node_at, path_to}
use Rattle.lineage.proofs.Pushes.{IsPushed, pushed_all}
use Rattle.lineage.proofs.lineage.Lineage.push.Goals as goal
use Rattle.lineage.proofs.lineage.Lineage.push.Given.{Over}

pub push_node-requires-clause-path : goal.push_node-requires-clause-path
push_node-requires-clause-path g c =
    let a = c.self.inside in
    let count : length (map (path_to a.nodes.slots) a.tips.items) ≡ length a.tips.items = length-map a.tips.items (path_to a.nodes.slots) in
    let paths = ap (λ f. length f.paths) c.self.view_is in
    omega (arith, count, paths, c.requires)

pushed : (g : Over) (c : goal.After-push_node g)
    → IsPushed c.self.inside.nodes.slots c.push_node.new.nodes.slots c.self.inside.tips.items c.push_node.new.tips.items c.args.path c.push_node.result c.args.item
pushed g c =
    let a = c.self.inside in
    let same = c.in_ok-reserve_node.ensures.slots in
    let here = c.push_node.ensures in
    let count : length (map (path_to a.nodes.slots) a.tips.items) ≡ length a.tips.items = length-map a.tips.items (path_to a.nodes.slots) in
    let paths = ap (λ f. length f.paths) c.self.view_is in
    let few = c.in_ok-reserve_node.ensures.few in
    let len = c.len.ensures in
    let items = a.tips.ok.0 in
    pushed_all a.nodes.slots c.push_node.new.nodes.slots a.tips.items c.push_node.new.tips.items c.args.path c.push_node.result c.args.item c.self.invariant
    (omega (arith, count, paths, c.requires)) (ap (λ s. node_at s c.push_node.result) (sym same) ∙ here.vacant) here.here (λ k ne. here.others k ne ∙ ap (λ s. node_at s k) same) here.tips
    (here.len ∙ ap (λ s. count_by is_some s + 1) same) (omega (arith, few, len, items))

pub returns-clause-paths : goal.returns-clause-paths
returns-clause-paths g c = rw (← c.self.view_is) (pushed g c).paths

pub invariant_of-self-2 : goal.invariant_of-self-2
invariant_of-self-2 g c = (pushed g c).sound

pub invariant_of-self : goal.invariant_of-self
invariant_of-self g c = subst (λ s. IsSoundFamily s c.self.inside.tips.items) (sym c.in_err-reserve_node.ensures.slots) c.self.invariant

pub returns-clause-item : goal.returns-clause-item
returns-clause-item g c = rw (← c.self.view_is) (pushed g c).added

pub reserve_node-requires : goal.reserve_node-requires
reserve_node-requires g c = let tips = c.self.inside.tips in omega (arith, tips.ok.1, tips.small, c.len.ensures)
