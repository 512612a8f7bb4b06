use Rattle.std.proofs.Common.{rules, ◌≡◌, true, ap, ◌∙◌}
use Rattle.branch_terms.specs.Names.{is_well_formed}
use Rattle.branch_terms.specs.Limbs.{is_new_name}
use Rattle.tower_file.proofs.LimbNames.{new_name_is}
use Rattle.tower_file.proofs.limbs.NamedLimbs.is_new_name.Goals as goal

pub returns-then-is_well_formed : goal.returns-then-is_well_formed
returns-then-is_well_formed c =
    let formed : is_well_formed c.args.name.now ≡ true = search rules in
    new_name_is c.self.inside.limbs.items c.self.inside.names.keys c.args.name.now c.contains.result c.self.invariant c.as_bytes.ensures.short formed c.contains.ensures
    ∙ ap (λ ls. is_new_name ls c.args.name.now) c.self.view_is
