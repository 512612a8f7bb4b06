use Rattle.std.proofs.Common.{sym, subst}
use Rattle.views.specs.Lenses.{IsLens}
use Rattle.views.specs.Spots.{IsAlike, part_end}
use Rattle.views.specs.laws.PlaceLaws.{same_place}
use Rattle.views.proofs.Lenses.{found_alike, is_lens_after_find}
use Rattle.views.proofs.lens.Lens.find.Goals as goal

pub invariant_of-self : goal.invariant_of-self
invariant_of-self g c =
    subst (IsLens g.R.Behaves.behaviour) (sym c.get.follows.holds-at-none)
    (is_lens_after_find g.R.Behaves.behaviour g.R.PartialEq.eq g.R.Pending.PartialEq.eq g.met.R.Register.alike g.met.R.Register.same_pending c.self.inside.places c.self.invariant.0
    (same_place g.R.PartialEq.eq g.R.Pending.PartialEq.eq c.in-Ok.place) c.self.invariant.1)

pub invariant_of-self-in_default-copy : goal.invariant_of-self-in_default-copy
invariant_of-self-in_default-copy g c =
    subst (IsLens g.R.Behaves.behaviour) (sym c.get.follows.holds-at-none)
    (is_lens_after_find g.R.Behaves.behaviour g.R.PartialEq.eq g.R.Pending.PartialEq.eq g.met.R.Register.alike g.met.R.Register.same_pending c.self.inside.places c.self.invariant.0
    (same_place g.R.PartialEq.eq g.R.Pending.PartialEq.eq c.in-Ok.place) c.self.invariant.1)

pub invariant_of-self-2 : goal.invariant_of-self-2
invariant_of-self-2 g c =
    subst (IsLens g.R.Behaves.behaviour) (sym c.get.follows.holds-at-none)
    (is_lens_after_find g.R.Behaves.behaviour g.R.PartialEq.eq g.R.Pending.PartialEq.eq g.met.R.Register.alike g.met.R.Register.same_pending c.self.inside.places c.self.invariant.0
    (same_place g.R.PartialEq.eq g.R.Pending.PartialEq.eq c.in-Ok.place) c.self.invariant.1)

pub returns : goal.returns
returns g c =
    let is = g.R.Behaves.behaviour in
    subst (λ p. IsAlike is c.in-Ok-copy.copy (part_end is p)) c.in-Ok.ensures
    (subst (λ x. IsAlike is x (part_end is c.in-Ok.place)) (sym c.in-Ok-copy.ensures)
    (found_alike is g.R.PartialEq.eq g.R.Pending.PartialEq.eq g.met.R.Register.alike g.met.R.Register.same_pending c.self.inside.places c.self.invariant.0
    c.in-Ok.place c.in_ok-config.config.now (sym c.in_ok-config.ensures.value)))
