use Rattle.std.proofs.Common.{rules, ◌≡◌, true, ◌∷◌, ◌++◌, [], sym, subst}
use Rattle.branch_terms.specs.Limbs.{is_new_name}
use Rattle.tower_file.proofs.LimbNames.{names_after_push}
use Rattle.tower_file.proofs.limbs.NamedLimbs.push.Goals as goal

pub invariant_of-self-2 : goal.invariant_of-self-2
invariant_of-self-2 c =
    let limbs = c.self.inside.limbs.items in
    let grown : c.push.new.self.items ≡ limbs ++ c.args.limb ∷ [] = search rules in
    let new : is_new_name limbs c.args.limb.name ≡ true = subst (λ ls. is_new_name ls c.args.limb.name ≡ true) (sym c.self.view_is) c.requires.new in
    names_after_push limbs c.self.inside.names.keys c.insert.new.self.keys c.args.limb c.push.new.self.items c.self.invariant new c.in_ok-insert.ensures.keys grown
