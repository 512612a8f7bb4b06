use Rattle.std.proofs.Common.{◌≡◌, ◌⊎◌, false, sym, subst}
use Rattle.safe_bit.specs.Parts.{part, origin}
use Rattle.register_tests.specs.Neighbours.{Neighbours, IsPending}
use Rattle.register_tests.proofs.Neighbours.{neighbours_after}
use Rattle.register_tests.proofs.built_towers.neighbours.Neighbours.go.Goals as goal

pub invariant_of-self : goal.invariant_of-self
invariant_of-self g c =
    let laws = g.met.R.Register in
    let r = c.self.inside.register in
    let b = g.R.Behaves.behaviour r in
    let at = c.place-at.result in
    let own = part at b.size c.self.inside.store in
    let side = subst (λ (n : Neighbours _). (at ≡ origin) ⊎ (at ≡ (g.R.Behaves.behaviour n.register).size)) (sym c.self.view_is) c.place-at.ensures.side in
    let holds = subst (λ (n : Neighbours _). g.R.Register.Holds n.register (part at (g.R.Behaves.behaviour n.register).size n.memory)) (sym c.self.view_is) c.place-at.ensures.holds in
    let pending = subst (λ (n : Neighbours _). IsPending (g.R.Behaves.behaviour n.register) (g.R.Register.Reaches n.register) c.args.who c.args.stack.now) (sym c.self.view_is) c.requires in
    let lands = c.go_on-progress.ensures.lands pending.0 pending.1.0 pending.1.1 in
    neighbours_after b (g.R.Register.Holds r) (g.R.Register.Reaches r) (laws.lawful r) at c.self.inside.store
    (b.goes pending.1.0 false own).memory c.go_on-progress.new.store side c.self.invariant
    (((laws.lawful r).goes_well c.args.who pending.0 pending.1.0 false own holds pending.1.1.reached).holds) lands.memory
