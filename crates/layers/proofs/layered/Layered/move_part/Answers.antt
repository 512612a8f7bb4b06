use Rattle.std.proofs.Common.{refl}
use Rattle.layers.specs.laws.Over.{over}
use Rattle.layers.specs.Flat.{cut_if_ended}
use Rattle.layers.proofs.PartSteps.{part_keeps, part_lies, part_has_frames, part_chooses, part_moved, part_ended}
use Rattle.layers.proofs.layered.Layered.move_part.Goals as goal

pub go_on-requires-clause-holds : goal.go_on-requires-clause-holds
go_on-requires-clause-holds g c =
    let l = over (g.met.S.Register.lawful c.args.self.now.below) (g.met.L.Construction.sound c.args.self.now.layer) c.args.self.now.fit in
    part_keeps l c.args.at c.args.store.now c.requires.lies c.args.task c.asks-ask.result c.asks-ask.ensures c.part_place-place.result c.part_place-place.ensures c.requires.may_be_at.0 c.requires.may_be_at.1.0 c.requires.may_be_at.1.1.1.reached.may_be_at

pub go_on-requires-clause-inside : goal.go_on-requires-clause-inside
go_on-requires-clause-inside g c =
    let l = over (g.met.S.Register.lawful c.args.self.now.below) (g.met.L.Construction.sound c.args.self.now.layer) c.args.self.now.fit in
    part_lies l c.args.at c.args.store.now c.requires.lies c.args.task c.asks-ask.result c.asks-ask.ensures c.part_place-place.result c.part_place-place.ensures c.requires.may_be_at.0 c.requires.may_be_at.1.0 c.requires.may_be_at.1.1.1.reached.may_be_at

pub go_on-requires-clause-may_be_at : goal.go_on-requires-clause-may_be_at
go_on-requires-clause-may_be_at g c =
    let l = over (g.met.S.Register.lawful c.args.self.now.below) (g.met.L.Construction.sound c.args.self.now.layer) c.args.self.now.fit in
    let s = c.requires.may_be_at in
    (c.asks-ask.result.op, (s.1.1.0, part_has_frames l c.args.at c.args.store.now c.requires.lies c.args.task c.asks-ask.result c.asks-ask.ensures c.part_place-place.result c.part_place-place.ensures c.args.choice c.args.first c.args.stack.now s.0 s.1.0 s.1.1.0 s.1.1.1))

pub returns-clause-lands : goal.returns-clause-lands
returns-clause-lands g c =
    let l = over (g.met.S.Register.lawful c.args.self.now.below) (g.met.L.Construction.sound c.args.self.now.layer) c.args.self.now.fit in
    λ who o p on.
    part_moved l c.args.at c.args.store.now c.requires.lies c.args.task c.asks-ask.result c.asks-ask.ensures c.part_place-place.result c.part_place-place.ensures c.args.choice c.args.first c.args.stack.now who o p on
    c.go_on.result.end c.go_on.new.stack (cut_if_ended c.args.first c.go_on.result.end c.go_on.new.stack) c.go_on.new.store (c.go_on.ensures.lands c.asks-ask.result.op p) refl

pub returns-clause-chosen : goal.returns-clause-chosen
returns-clause-chosen g c =
    let l = over (g.met.S.Register.lawful c.args.self.now.below) (g.met.L.Construction.sound c.args.self.now.layer) c.args.self.now.fit in
    λ who o p on.
    part_chooses l c.args.at c.args.store.now c.requires.lies c.args.task c.asks-ask.result c.asks-ask.ensures c.part_place-place.result c.part_place-place.ensures c.args.choice c.args.first c.args.stack.now who o p on
    c.go_on.result.chosen (c.go_on.ensures.chosen c.asks-ask.result.op p)

pub returns-clause-own : goal.returns-clause-own
returns-clause-own g c =
    let l = over (g.met.S.Register.lawful c.args.self.now.below) (g.met.L.Construction.sound c.args.self.now.layer) c.args.self.now.fit in
    let s = c.requires.may_be_at in
    part_ended l c.args.at c.args.store.now c.requires.lies c.args.task c.asks-ask.result c.asks-ask.ensures c.part_place-place.result c.part_place-place.ensures c.args.choice c.args.first c.args.stack.now s.0 s.1.0 s.1.1.0 s.1.1.1
    c.go_on.result.end c.go_on.new.stack c.go_on.new.store (c.go_on.ensures.lands c.asks-ask.result.op s.1.1.0)
