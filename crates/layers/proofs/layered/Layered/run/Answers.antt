use Rattle.std.proofs.Common.{rules, ◌≡◌, Some, None, sym, subst, ◌∙◌}
use Rattle.layers.specs.Driver.{own_memory, run_from}
use Rattle.layers.specs.laws.Over.{over}
use Rattle.layers.proofs.Runs.{WaitsOrIsSpent, end_lands, asked_waiting_reaches_aim, asked_answers, asked_lies, asked_leaves, goes_on_after}
use Rattle.layers.proofs.layered.Layered.run.Goals as goal

pub returns-in-Ends : goal.returns-in-Ends
returns-in-Ends g c =
    let r = c.args.self.now in
    let l = over (g.met.S.Register.lawful r.below) (g.met.L.Construction.sound r.layer) r.fit in
    let aim = run_from r c.args.continuation (own_memory r c.args.at c.args.store.now) in
    rw (← c.loop-onward.invariant.1) (end_lands l c.args.at aim c.args.store.now c.loop-onward.onward c.loop-onward.store c.loop-onward.invariant.0 c.in-Ends.outcome c.loop-onward.stack c.in-Ends.is)

pub returns-in_err-outcome : goal.returns-in_err-outcome
returns-in_err-outcome g c =
    let r = c.args.self.now in
    let l = over (g.met.S.Register.lawful r.below) (g.met.L.Construction.sound r.layer) r.fit in
    let aim = run_from r c.args.continuation (own_memory r c.args.at c.args.store.now) in
    let none : c.ask.result ≡ None = search rules in
    let same : c.from_residual.result ≡ c.ask.result = search rules in
    rw (same, ← c.loop-onward.invariant.1) (asked_waiting_reaches_aim l c.args.at aim c.args.store.now c.loop-onward.onward c.loop-onward.store c.loop-onward.invariant.0 c.in-Asks.task c.in-Asks.is c.ask.result c.loop-onward.stack c.ask.new.stack c.ask.new.store c.ask.ensures (subst WaitsOrIsSpent (sym none) tt))

pub returns-then-is_spent : goal.returns-then-is_spent
returns-then-is_spent g c =
    let r = c.args.self.now in
    let l = over (g.met.S.Register.lawful r.below) (g.met.L.Construction.sound r.layer) r.fit in
    let aim = run_from r c.args.continuation (own_memory r c.args.at c.args.store.now) in
    let some : c.ask.result ≡ Some c.in_ok-outcome.outcome = search rules in
    rw (← some, ← c.loop-onward.invariant.1) (asked_waiting_reaches_aim l c.args.at aim c.args.store.now c.loop-onward.onward c.loop-onward.store c.loop-onward.invariant.0 c.in-Asks.task c.in-Asks.is c.ask.result c.loop-onward.stack c.ask.new.stack c.ask.new.store c.ask.ensures (subst WaitsOrIsSpent (sym some) (c.is_spent.ensures.ends c.if-is_spent.true)))

pub after-onward-requires-clause-lies : goal.after-onward-requires-clause-lies
after-onward-requires-clause-lies g c =
    let r = c.args.self.now in
    let l = over (g.met.S.Register.lawful r.below) (g.met.L.Construction.sound r.layer) r.fit in
    let aim = run_from r c.args.continuation (own_memory r c.args.at c.args.store.now) in
    asked_lies l c.args.at aim c.args.store.now c.loop-onward.onward c.loop-onward.store c.loop-onward.invariant.0 c.in-Asks.task c.in-Asks.is c.ask.result c.loop-onward.stack c.ask.new.stack c.ask.new.store c.ask.ensures

pub after-onward-requires-clause-answers : goal.after-onward-requires-clause-answers
after-onward-requires-clause-answers g c =
    let r = c.args.self.now in
    let l = over (g.met.S.Register.lawful r.below) (g.met.L.Construction.sound r.layer) r.fit in
    let aim = run_from r c.args.continuation (own_memory r c.args.at c.args.store.now) in
    let some : c.ask.result ≡ Some c.in_ok-outcome.outcome = search rules in
    asked_answers l c.args.at aim c.args.store.now c.loop-onward.onward c.loop-onward.store c.loop-onward.invariant.0 c.in-Asks.task c.in-Asks.is c.ask.result c.loop-onward.stack c.ask.new.stack c.ask.new.store c.ask.ensures c.in_ok-outcome.outcome some

pub loop-onward-preserved : goal.loop-onward-preserved
loop-onward-preserved g c =
    let r = c.args.self.now in
    let l = over (g.met.S.Register.lawful r.below) (g.met.L.Construction.sound r.layer) r.fit in
    let aim = run_from r c.args.continuation (own_memory r c.args.at c.args.store.now) in
    let some : c.ask.result ≡ Some c.in_ok-outcome.outcome = search rules in (
      goes_on_after l c.args.at aim c.args.store.now c.loop-onward.onward c.loop-onward.store c.loop-onward.invariant.0 c.in-Asks.task c.in-Asks.is c.ask.result c.loop-onward.stack c.ask.new.stack c.ask.new.store c.ask.ensures c.in_ok-outcome.outcome some (c.is_spent.ensures.goes_on c.if-is_spent.false) c.after-onward.result c.after-onward.new.store c.after-onward.ensures.continuation c.after-onward.ensures.memory,
      asked_leaves l c.args.at aim c.args.store.now c.loop-onward.onward c.loop-onward.store c.loop-onward.invariant.0 c.in-Asks.task c.in-Asks.is c.ask.result c.loop-onward.stack c.ask.new.stack c.ask.new.store c.ask.ensures c.in_ok-outcome.outcome some
          ∙ c.loop-onward.invariant.1,
    )

pub ask-requires-clause-lies : goal.ask-requires-clause-lies
ask-requires-clause-lies g c = c.loop-onward.invariant.0.lies
