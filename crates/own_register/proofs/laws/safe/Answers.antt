use Rattle.own_register.specs.Program.{two_bits_left}
use Rattle.own_register.specs.laws.Sound.{two_bits_sound}
use Rattle.own_register.proofs.Kept.{two_bits_over_safe}
use Rattle.own_register.proofs.laws.safe.Goals as goal

pub returns : goal.returns
returns g c =
    let r = c.args.register.now in
    two_bits_over_safe (g.S.Behaves.behaviour r.below) (g.S.Register.Holds r.below) (g.S.Register.Reaches r.below) r.layer.processes two_bits_left (g.met.S.Register.lawful r.below)
    (two_bits_sound r.layer.processes r.layer.some) r.fit c.requires
