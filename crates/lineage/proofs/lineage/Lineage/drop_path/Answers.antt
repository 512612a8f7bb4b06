use Rattle.std.proofs.Common.{◌<◌, length, map, sym, ◌∙◌, ap, subst}
use Rattle.std.specs.List.{remove}
use Rattle.lineage.specs.Family.{IsReleased}
use Rattle.lineage.specs.Lineages.{IsSoundFamily, path_to, family_on}
use Rattle.lineage.proofs.Drops.{dropped_paths, released, dropped_first}
use Rattle.lineage.proofs.lineage.Lineage.drop_path.Goals as goal
use Rattle.lineage.proofs.lineage.Lineage.drop_path.Given.{Over}

pub free_up-requires : goal.free_up-requires
free_up-requires g c =
    let a = c.self.inside in
    (remove a.tips.items c.args.path, dropped_first a.nodes.slots a.tips.items c.args.path c.remove-tip.result c.self.invariant (subst (λ f. c.args.path < length f.paths) (sym c.self.view_is) c.requires) c.remove-tip.ensures.value)

sound : (g : Over) (c : goal.After-free_up g) → IsSoundFamily c.free_up.new.nodes.slots (remove c.self.inside.tips.items c.args.path)
sound g c =
    let a = c.self.inside in
    c.free_up.ensures.sound (remove a.tips.items c.args.path)
    (dropped_first a.nodes.slots a.tips.items c.args.path c.remove-tip.result c.self.invariant (subst (λ f. c.args.path < length f.paths) (sym c.self.view_is) c.requires) c.remove-tip.ensures.value)

pub invariant_of-self : goal.invariant_of-self
invariant_of-self g c = subst (IsSoundFamily c.free_up.new.nodes.slots) (sym c.remove-tip.ensures.items) (sound g c)

pub returns-clause-paths : goal.returns-clause-paths
returns-clause-paths g c =
    let a = c.self.inside in
    rw (← c.self.view_is) (ap (map (path_to c.free_up.new.nodes.slots)) c.remove-tip.ensures.items
    ∙ dropped_paths a.nodes.slots c.free_up.new.nodes.slots a.tips.items c.args.path (sound g c) c.free_up.ensures.stays)

pub returns-clause-items : goal.returns-clause-items
returns-clause-items g c =
    let a = c.self.inside in
    let all = released a.nodes.slots c.free_up.new.nodes.slots a.tips.items c.args.path (sound g c) c.free_up.ensures.stays in
    rw (← c.self.view_is) (subst (λ tips. IsReleased (family_on a.nodes.slots a.tips.items) (family_on c.free_up.new.nodes.slots tips)) (sym c.remove-tip.ensures.items) all)
