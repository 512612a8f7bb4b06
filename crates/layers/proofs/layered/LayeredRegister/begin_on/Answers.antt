use Rattle.std.proofs.Common.{refl}
use Rattle.layers.specs.laws.Over.{over}
use Rattle.layers.proofs.Runs.{settled_sound, settled_lies, settled_lands}
use Rattle.layers.proofs.layered.LayeredRegister.begin_on.Goals as goal

pub run-requires-clause-lies : goal.run-requires-clause-lies
run-requires-clause-lies g c =
    let r = c.args.self.now in
    let l = over (g.met.S.Register.lawful r.below) (g.met.L.Construction.sound r.layer) r.fit in
    let sound = l.sound.begins_sound c.args.who c.args.op c.requires.fits in
    settled_lies l c.args.at _ _ _ c.args.store.now c.lemma_lies.ensures sound c.start-continuation.result c.start-continuation.new.store c.start-continuation.ensures.continuation c.start-continuation.ensures.memory

pub run-requires-clause-may_be_at : goal.run-requires-clause-may_be_at
run-requires-clause-may_be_at g c =
    let r = c.args.self.now in
    let l = over (g.met.S.Register.lawful r.below) (g.met.L.Construction.sound r.layer) r.fit in
    let sound = l.sound.begins_sound c.args.who c.args.op c.requires.fits in
    (c.args.who, (c.args.op, settled_sound l c.args.at _ _ _ c.args.store.now c.lemma_lies.ensures sound c.start-continuation.result c.start-continuation.new.store c.start-continuation.ensures.continuation c.start-continuation.ensures.memory))

pub returns : goal.returns
returns g c =
    let r = c.args.self.now in
    let l = over (g.met.S.Register.lawful r.below) (g.met.L.Construction.sound r.layer) r.fit in
    let sound = l.sound.begins_sound c.args.who c.args.op c.requires.fits in
    settled_lands l c.args.at _ _ _ c.args.store.now c.lemma_lies.ensures sound c.start-continuation.result c.start-continuation.new.store c.start-continuation.ensures.continuation c.start-continuation.ensures.memory
    _ refl c.args.stack.now c.run.result c.run.new.stack c.run.new.store c.run.ensures
