use Rattle.layers.specs.laws.Nested.{rest_sound}
use Rattle.layers.specs.laws.Over.{over}
use Rattle.layers.specs.Driver.{own_memory}
use Rattle.layers.proofs.Runs.{follows_spent, settled_sound, settled_lies, settled_lands, advance_follows}
use Rattle.layers.proofs.layered.Layered.run_on_after.Goals as goal

pub returns-then-is_spent : goal.returns-then-is_spent
returns-then-is_spent g c =
    let r = c.args.self.now in
    let l = over (g.met.S.Register.lawful r.below) (g.met.L.Construction.sound r.layer) r.fit in
    follows_spent l c.args.at c.args.task c.args.outcome c.args.stack.now c.args.store.now c.requires.lies (c.is_spent.ensures.ends c.if-is_spent.true)

pub run-requires-clause-lies : goal.run-requires-clause-lies
run-requires-clause-lies g c =
    let r = c.args.self.now in
    let l = over (g.met.S.Register.lawful r.below) (g.met.L.Construction.sound r.layer) r.fit in
    let sound = rest_sound l c.requires.may_be_at.0 c.requires.may_be_at.1.0 c.args.task c.args.outcome c.requires.may_be_at.1.1 c.requires.answers (c.is_spent.ensures.goes_on c.if-is_spent.false) in
    settled_lies l c.args.at _ _ _ c.args.store.now c.requires.lies sound c.after-continuation.result c.after-continuation.new.store c.after-continuation.ensures.continuation c.after-continuation.ensures.memory

pub run-requires-clause-may_be_at : goal.run-requires-clause-may_be_at
run-requires-clause-may_be_at g c =
    let r = c.args.self.now in
    let l = over (g.met.S.Register.lawful r.below) (g.met.L.Construction.sound r.layer) r.fit in
    let sound = rest_sound l c.requires.may_be_at.0 c.requires.may_be_at.1.0 c.args.task c.args.outcome c.requires.may_be_at.1.1 c.requires.answers (c.is_spent.ensures.goes_on c.if-is_spent.false) in (
      c.requires.may_be_at.0,
      (
        c.requires.may_be_at.1.0,
        settled_sound l c.args.at _ _ _ c.args.store.now c.requires.lies sound c.after-continuation.result c.after-continuation.new.store c.after-continuation.ensures.continuation c.after-continuation.ensures.memory,
      ),
    )

pub returns : goal.returns
returns g c =
    let r = c.args.self.now in
    let l = over (g.met.S.Register.lawful r.below) (g.met.L.Construction.sound r.layer) r.fit in
    let goes_on = c.is_spent.ensures.goes_on c.if-is_spent.false in
    let sound = rest_sound l c.requires.may_be_at.0 c.requires.may_be_at.1.0 c.args.task c.args.outcome c.requires.may_be_at.1.1 c.requires.answers goes_on in
    settled_lands l c.args.at _ _ _ c.args.store.now c.requires.lies sound c.after-continuation.result c.after-continuation.new.store c.after-continuation.ensures.continuation c.after-continuation.ensures.memory
    _ (advance_follows l c.args.at c.args.task c.args.outcome (own_memory r c.args.at c.args.store.now) goes_on) c.args.stack.now c.run.result c.run.new.stack c.run.new.store c.run.ensures
