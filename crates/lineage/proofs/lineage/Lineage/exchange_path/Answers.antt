use Rattle.std.proofs.Common.{◌<◌, None, length, sym, subst, arith}
use Rattle.lineage.specs.Lineages.{IsSoundFamily}
use Rattle.lineage.proofs.Exchanges.{within_now, replaced_first, all_exchanged}
use Rattle.lineage.proofs.lineage.Lineage.exchange_path.Goals as goal

pub invariant_of-self : goal.invariant_of-self
invariant_of-self g c =
    let here = c.in_err-reserve_path.ensures in
    subst (λ s. IsSoundFamily s c.reserve_path.new.tips.items) (sym here.slots) (subst (IsSoundFamily c.self.inside.nodes.slots) (sym here.items) c.self.invariant)

pub add_path-requires-clause-sound : goal.add_path-requires-clause-sound
add_path-requires-clause-sound g c =
    let here = c.in_ok-reserve_path.ensures in
    subst (λ s. IsSoundFamily s c.reserve_path.new.tips.items) (sym here.slots) (subst (IsSoundFamily c.self.inside.nodes.slots) (sym here.items) c.self.invariant)

pub swap_remove-tip-requires : goal.swap_remove-tip-requires
swap_remove-tip-requires g c =
    let a = c.self.inside in
    let here = c.in_ok-reserve_path.ensures in
    let inside = within_now a.nodes.slots c.reserve_path.new.nodes.slots c.add_path.new.nodes.slots a.tips.items c.reserve_path.new.tips.items c.add_path.new.tips.items c.add_path.new.tips.items
    c.args.items.items c.args.path None c.self.invariant (subst (λ f. c.args.path < length f.paths) (sym c.self.view_is) c.requires) here.slots here.items c.add_path.ensures in
    let len = c.add_path.new.tips.ok.0 in
    omega (arith, inside, len)

pub free_up-requires : goal.free_up-requires
free_up-requires g c =
    let a = c.self.inside in
    let here = c.in_ok-reserve_path.ensures in
    let out = c.swap_remove-tip.ensures in (
      c.swap_remove-tip.new.self.items,
      replaced_first a.nodes.slots c.reserve_path.new.nodes.slots c.add_path.new.nodes.slots a.tips.items c.reserve_path.new.tips.items c.add_path.new.tips.items c.swap_remove-tip.new.self.items
          c.args.items.items c.args.path c.swap_remove-tip.result c.self.invariant (subst (λ f. c.args.path < length f.paths) (sym c.self.view_is) c.requires) here.slots here.items c.add_path.ensures
          out.value out.items,
    )

pub invariant_of-self-2 : goal.invariant_of-self-2
invariant_of-self-2 g c =
    let a = c.self.inside in
    let here = c.in_ok-reserve_path.ensures in
    let out = c.swap_remove-tip.ensures in
    c.free_up.ensures.sound c.swap_remove-tip.new.self.items
    (replaced_first a.nodes.slots c.reserve_path.new.nodes.slots c.add_path.new.nodes.slots a.tips.items c.reserve_path.new.tips.items c.add_path.new.tips.items c.swap_remove-tip.new.self.items
    c.args.items.items c.args.path c.swap_remove-tip.result c.self.invariant (subst (λ f. c.args.path < length f.paths) (sym c.self.view_is) c.requires) here.slots here.items c.add_path.ensures
    out.value out.items)

pub returns-clause-ok : goal.returns-clause-ok
returns-clause-ok g c =
    let a = c.self.inside in
    let here = c.in_ok-reserve_path.ensures in
    let out = c.swap_remove-tip.ensures in
    let inside = subst (λ f. c.args.path < length f.paths) (sym c.self.view_is) c.requires in
    let sound = c.free_up.ensures.sound c.swap_remove-tip.new.self.items
    (replaced_first a.nodes.slots c.reserve_path.new.nodes.slots c.add_path.new.nodes.slots a.tips.items c.reserve_path.new.tips.items c.add_path.new.tips.items c.swap_remove-tip.new.self.items
    c.args.items.items c.args.path c.swap_remove-tip.result c.self.invariant inside here.slots here.items c.add_path.ensures out.value out.items) in
    rw (← c.self.view_is) (all_exchanged a.nodes.slots c.reserve_path.new.nodes.slots c.add_path.new.nodes.slots a.tips.items c.reserve_path.new.tips.items c.add_path.new.tips.items
    c.swap_remove-tip.new.self.items c.args.items.items c.args.path c.swap_remove-tip.result c.self.invariant inside here.slots here.items c.add_path.ensures out.value out.items
    c.free_up.new.nodes.slots sound c.free_up.ensures.stays)
