use Rattle.stamped.specs.laws.Sound.{stamped_sound}
use Rattle.stamped.proofs.Kept.{stamped_over_regular}
use Rattle.stamped.proofs.laws.atomic.Goals as goal

pub returns : goal.returns
returns g c =
    let r = c.args.register.now in
    stamped_over_regular (g.S.Behaves.behaviour r.below) (g.S.Register.Holds r.below) (g.S.Register.Reaches r.below) r.layer.values r.layer.last (λ _. 0) (g.met.S.Register.lawful r.below)
    (stamped_sound r.layer.values r.layer.last r.layer.some) r.fit c.requires
