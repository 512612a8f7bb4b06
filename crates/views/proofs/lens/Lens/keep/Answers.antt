use Rattle.std.proofs.Common.{sym, subst}
use Rattle.views.specs.Spots.{IsAlike, part_end}
use Rattle.views.proofs.Lenses.{is_lens_after_put}
use Rattle.views.proofs.lens.Lens.keep.Goals as goal

pub invariant_of-self : goal.invariant_of-self
invariant_of-self g c =
    let is = g.R.Behaves.behaviour in
    let place = c.in_ok-place.place in
    let config = c.in_ok-config.config in
    let like : IsAlike is config (part_end is place) =
    subst (λ x. IsAlike is x (part_end is place)) (sym c.in_ok-config.ensures)
    (subst (λ p. IsAlike is c.args.config.now (part_end is p)) (sym c.in_ok-place.ensures) c.requires) in
    is_lens_after_put is g.R.PartialEq.eq g.R.Pending.PartialEq.eq g.met.R.Register.alike g.met.R.Register.same_pending c.self.inside.places c.self.invariant.0 place config
    c.put.new.self c.put.result c.self.invariant.1 like c.put.ensures.entries c.put.ensures.err
