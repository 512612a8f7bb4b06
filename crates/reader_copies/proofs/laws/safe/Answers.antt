use Rattle.reader_copies.specs.Program.{copies_left}
use Rattle.reader_copies.specs.laws.Sound.{copies_sound}
use Rattle.reader_copies.proofs.Kept.{copies_over_safe}
use Rattle.reader_copies.proofs.laws.safe.Goals as goal

pub returns : goal.returns
returns g c =
    let r = c.args.register.now in
    copies_over_safe (g.S.Behaves.behaviour r.below) (g.S.Register.Holds r.below) (g.S.Register.Reaches r.below) r.layer.readers r.layer.values (copies_left r.layer.readers) (g.met.S.Register.lawful r.below)
    (copies_sound r.layer.readers r.layer.values r.layer.some r.layer.few) r.fit c.requires
