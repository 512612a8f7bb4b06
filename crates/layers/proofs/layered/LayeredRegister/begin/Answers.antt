use Rattle.layers.specs.Nested.{layered}
use Rattle.layers.specs.laws.Layered.{layer_lawful}
use Rattle.layers.specs.laws.Over.{over}
use Rattle.layers.proofs.OnNewStack.{begun_has_reached, fits_empty_stack}
use Rattle.layers.proofs.layered.LayeredRegister.begin.Goals as goal

pub begin_on-end-requires-clause-room : goal.begin_on-end-requires-clause-room
begin_on-end-requires-clause-room g c =
    let r = c.args.self.now in
    let l = over (g.met.S.Register.lawful r.below) (g.met.L.Construction.sound r.layer) r.fit in
    fits_empty_stack c.new-stack.result (layered l.table l.below).depth c.new-stack.ensures (layer_lawful l).few_frames

pub reached_next-requires : goal.reached_next-requires
reached_next-requires g c =
    let r = c.args.self.now in
    let l = over (g.met.S.Register.lawful r.below) (g.met.L.Construction.sound r.layer) r.fit in
    let began = begun_has_reached l c.args.at c.args.store.now c.requires.holds c.args.who c.args.op c.begin_on-end.result c.begin_on-end.new.stack c.begin_on-end.new.store
    c.new-stack.result c.new-stack.ensures c.requires.fits c.begin_on-end.ensures in
    record { may_be_at = (c.args.op, (_, began)) }

pub returns-clause-next : goal.returns-clause-next
returns-clause-next g c =
    let r = c.args.self.now in
    let l = over (g.met.S.Register.lawful r.below) (g.met.L.Construction.sound r.layer) r.fit in
    c.reached_next.ensures c.args.op _ (begun_has_reached l c.args.at c.args.store.now c.requires.holds c.args.who c.args.op c.begin_on-end.result c.begin_on-end.new.stack c.begin_on-end.new.store
    c.new-stack.result c.new-stack.ensures c.requires.fits c.begin_on-end.ensures)
