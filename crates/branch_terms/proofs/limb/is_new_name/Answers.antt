use Rattle.std.proofs.Common.{rules, ◌≡◌, true}
use Rattle.branch_terms.specs.Names.{is_well_formed}
use Rattle.branch_terms.proofs.JudgedLimbs.{new_if_free}
use Rattle.branch_terms.proofs.limb.is_new_name.Goals as goal

pub returns-then-is_well_formed : goal.returns-then-is_well_formed
returns-then-is_well_formed c =
    let formed : is_well_formed c.args.name.now ≡ true = search rules in
    new_if_free c.args.limbs.now c.args.name.now c.is_taken.result c.as_bytes.ensures.short formed c.is_taken.ensures
