use Rattle.std.proofs.Common.{rules, ◌≡◌, None, length, ap, arith, length-take}
use Rattle.layers.specs.laws.Flat.{index_inside}
use Rattle.layers.specs.laws.Over.{over}
use Rattle.layers.proofs.Runs.{at_found_task, frame_still_there, found_again, chooses, waits, ended_lies, again_suits, ended_goes_on}
use Rattle.layers.proofs.layered.LayeredRegister.go_on.Goals as goal

pub move_part-progress-requires-clause-may_be_at : goal.move_part-progress-requires-clause-may_be_at
move_part-progress-requires-clause-may_be_at g c =
    let l = over (g.met.S.Register.lawful c.args.self.now.below) (g.met.L.Construction.sound c.args.self.now.layer) c.args.self.now.fit in
    let n = c.requires.may_be_at.1.0 in
    let on = at_found_task l c.lemma_lies.ensures c.args.who c.args.first c.args.stack.now c.args.choice c.frame.ensures c.find-task.ensures
    c.requires.may_be_at.0 n c.requires.may_be_at.1.1 in
    (c.args.who, (c.requires.may_be_at.0, (n.below, on)))

pub returns-in_default-clause-lands : goal.returns-in_default-clause-lands
returns-in_default-clause-lands g c =
    let l = over (g.met.S.Register.lawful c.args.self.now.below) (g.met.L.Construction.sound c.args.self.now.layer) c.args.self.now.fit in
    let none : c.move_part-progress.result.end ≡ None = search rules in
    λ o n on. waits l c.lemma_lies.ensures c.args.who c.args.first c.args.stack.now c.args.choice c.frame.ensures c.find-task.ensures
    c.move_part-progress.new.stack (c.move_part-progress.ensures.lands c.args.who) on none

pub returns-in_default-clause-chosen : goal.returns-in_default-clause-chosen
returns-in_default-clause-chosen g c =
    let l = over (g.met.S.Register.lawful c.args.self.now.below) (g.met.L.Construction.sound c.args.self.now.layer) c.args.self.now.fit in
    chooses l c.lemma_lies.ensures c.args.who c.args.first c.args.stack.now c.args.choice c.frame.ensures c.find-task.ensures
    c.move_part-progress.result.chosen (c.move_part-progress.ensures.chosen c.args.who)

pub frame-requires-2 : goal.frame-requires-2
frame-requires-2 g c =
    let l = over (g.met.S.Register.lawful c.args.self.now.below) (g.met.L.Construction.sound c.args.self.now.layer) c.args.self.now.fit in
    frame_still_there l c.lemma_lies.ensures c.args.who c.args.first c.args.stack.now c.args.choice c.frame.ensures c.find-task.ensures
    c.move_part-progress.new.stack c.in-Some.is c.move_part-progress.ensures.own

pub truncate-requires : goal.truncate-requires
truncate-requires g c =
    let l = over (g.met.S.Register.lawful c.args.self.now.below) (g.met.L.Construction.sound c.args.self.now.layer) c.args.self.now.fit in
    let there = frame_still_there l c.lemma_lies.ensures c.args.who c.args.first c.args.stack.now c.args.choice c.frame.ensures c.find-task.ensures
    c.move_part-progress.new.stack c.in-Some.is c.move_part-progress.ensures.own in
    omega (arith, there)

pub run_on_after-end-requires-clause-lies : goal.run_on_after-end-requires-clause-lies
run_on_after-end-requires-clause-lies g c =
    let l = over (g.met.S.Register.lawful c.args.self.now.below) (g.met.L.Construction.sound c.args.self.now.layer) c.args.self.now.fit in
    ended_lies l c.lemma_lies.ensures c.args.who c.args.first c.args.stack.now c.args.choice c.frame.ensures c.find-task.ensures
    c.move_part-progress.new.stack (c.move_part-progress.ensures.lands c.args.who) c.requires.may_be_at.1.1 c.in-Some.is

pub run_on_after-end-requires-clause-may_be_at : goal.run_on_after-end-requires-clause-may_be_at
run_on_after-end-requires-clause-may_be_at g c =
    let l = over (g.met.S.Register.lawful c.args.self.now.below) (g.met.L.Construction.sound c.args.self.now.layer) c.args.self.now.fit in
    let same = found_again l c.lemma_lies.ensures c.args.who c.args.first c.args.stack.now c.args.choice c.frame.ensures c.find-task.ensures
    c.move_part-progress.new.stack c.in-Some.is c.move_part-progress.ensures.own c.frame-2.ensures c.find-ended.ensures in
    let ended = again_suits l c.lemma_lies.ensures c.args.who c.args.first c.args.stack.now c.args.choice c.frame.ensures c.find-task.ensures
    c.move_part-progress.new.stack (c.move_part-progress.ensures.lands c.args.who) c.requires.may_be_at.1.1 c.in-Some.is c.find-ended.result same in
    (c.args.who, (c.requires.may_be_at.0, ended.0))

pub run_on_after-end-requires-clause-answers : goal.run_on_after-end-requires-clause-answers
run_on_after-end-requires-clause-answers g c =
    let l = over (g.met.S.Register.lawful c.args.self.now.below) (g.met.L.Construction.sound c.args.self.now.layer) c.args.self.now.fit in
    let same = found_again l c.lemma_lies.ensures c.args.who c.args.first c.args.stack.now c.args.choice c.frame.ensures c.find-task.ensures
    c.move_part-progress.new.stack c.in-Some.is c.move_part-progress.ensures.own c.frame-2.ensures c.find-ended.ensures in
    (again_suits l c.lemma_lies.ensures c.args.who c.args.first c.args.stack.now c.args.choice c.frame.ensures c.find-task.ensures
    c.move_part-progress.new.stack (c.move_part-progress.ensures.lands c.args.who) c.requires.may_be_at.1.1 c.in-Some.is c.find-ended.result same).1

pub run_on_after-end-requires-clause-room : goal.run_on_after-end-requires-clause-room
run_on_after-end-requires-clause-room g c =
    omega (arith, ap length c.truncate.ensures, length-take c.args.first c.move_part-progress.new.stack, c.requires.room)

pub returns-clause-lands : goal.returns-clause-lands
returns-clause-lands g c =
    let l = over (g.met.S.Register.lawful c.args.self.now.below) (g.met.L.Construction.sound c.args.self.now.layer) c.args.self.now.fit in
    let same = found_again l c.lemma_lies.ensures c.args.who c.args.first c.args.stack.now c.args.choice c.frame.ensures c.find-task.ensures
    c.move_part-progress.new.stack c.in-Some.is c.move_part-progress.ensures.own c.frame-2.ensures c.find-ended.ensures in
    λ o n on. ended_goes_on l c.lemma_lies.ensures c.args.who c.args.first c.args.stack.now c.args.choice c.frame.ensures c.find-task.ensures
    c.move_part-progress.new.stack (c.move_part-progress.ensures.lands c.args.who) on c.in-Some.is
    c.find-ended.result same c.truncate.new.self c.truncate.ensures c.run_on_after-end.result c.run_on_after-end.new.stack c.run_on_after-end.new.store c.run_on_after-end.ensures

pub returns-clause-chosen : goal.returns-clause-chosen
returns-clause-chosen g c =
    let l = over (g.met.S.Register.lawful c.args.self.now.below) (g.met.L.Construction.sound c.args.self.now.layer) c.args.self.now.fit in
    chooses l c.lemma_lies.ensures c.args.who c.args.first c.args.stack.now c.args.choice c.frame.ensures c.find-task.ensures
    c.move_part-progress.result.chosen (c.move_part-progress.ensures.chosen c.args.who)

pub frame-requires : goal.frame-requires
frame-requires g c = index_inside c.args.first c.args.stack.now _ _ c.requires.may_be_at.1.1.there

pub move_part-progress-requires-clause-lies : goal.move_part-progress-requires-clause-lies
move_part-progress-requires-clause-lies g c = c.lemma_lies.ensures
