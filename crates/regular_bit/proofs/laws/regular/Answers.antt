use Rattle.regular_bit.specs.laws.Sound.{regular_sound}
use Rattle.regular_bit.proofs.Kept.{regular_over_safe}
use Rattle.regular_bit.proofs.laws.regular.Goals as goal

pub returns : goal.returns
returns g c =
    let r = c.args.register.now in
    regular_over_safe (g.S.Behaves.behaviour r.below) (g.S.Register.Holds r.below) (g.S.Register.Reaches r.below) r.layer.processes (λ _. 0) (g.met.S.Register.lawful r.below)
    (regular_sound r.layer.processes r.layer.some) r.fit c.requires
