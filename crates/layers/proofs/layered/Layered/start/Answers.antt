use Rattle.layers.specs.laws.Over.{over}
use Rattle.layers.proofs.Runs.{settled_in_store}
use Rattle.layers.proofs.layered.Layered.start.Goals as goal

pub returns : goal.returns
returns g c =
    let r = c.args.self.now in
    let l = over (g.met.S.Register.lawful r.below) (g.met.L.Construction.sound r.layer) r.fit in
    let sound = l.sound.begins_sound c.args.who c.args.op c.requires.fits in
    let there = settled_in_store l c.args.at c.args.who c.args.op _ c.args.store.now c.requires.lies sound c.words_at-base.result c.words_at-base.ensures c.start.result c.start.new.store c.start.ensures.continuation c.start.ensures.memory in
    record { continuation = there.0; memory = there.1 }
