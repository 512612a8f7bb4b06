use Rattle.std.proofs.Common.{◌≡◌, ◌⊎◌, sym, subst, true}
use Rattle.safe_bit.specs.Parts.{part, origin}
use Rattle.register_tests.specs.Neighbours.{Neighbours}
use Rattle.register_tests.proofs.Neighbours.{neighbours_after}
use Rattle.register_tests.proofs.built_towers.neighbours.Neighbours.begin.Goals as goal

pub invariant_of-self : goal.invariant_of-self
invariant_of-self g c =
    let laws = g.met.R.Register in
    let r = c.self.inside.register in
    let at = c.place-at.result in
    let own = part at (g.R.Behaves.behaviour r).size c.self.inside.store in
    let side = subst (λ (n : Neighbours _). (at ≡ origin) ⊎ (at ≡ (g.R.Behaves.behaviour n.register).size)) (sym c.self.view_is) c.place-at.ensures.side in
    let holds = subst (λ (n : Neighbours _). g.R.Register.Holds n.register (part at (g.R.Behaves.behaviour n.register).size n.memory)) (sym c.self.view_is) c.place-at.ensures.holds in
    let fits = subst (λ (n : Neighbours _). (g.R.Behaves.behaviour n.register).suits c.args.who c.args.op ≡ true) (sym c.self.view_is) c.requires.fits in
    neighbours_after (g.R.Behaves.behaviour r) (g.R.Register.Holds r) (g.R.Register.Reaches r) (laws.lawful r) at c.self.inside.store
    ((g.R.Behaves.behaviour r).begins c.args.who c.args.op own).memory c.begin_on.new.store side c.self.invariant
    (((laws.lawful r).begins_well c.args.who c.args.op own holds fits).holds) c.begin_on.ensures.memory
