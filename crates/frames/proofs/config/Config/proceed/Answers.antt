use Rattle.std.proofs.Common.{◌<◌, ◌==◌, sym, subst}
use Rattle.frames.proofs.Stepped.{slot_with_frames, proceeds}
use Rattle.frames.proofs.config.Config.proceed.Goals as goal

pub proceed_own-requires-clause-may_be_at : goal.proceed_own-requires-clause-may_be_at
proceed_own-requires-clause-may_be_at g c =
    let lt = subst (λ x. c.args.who < (g.R.Behaves.behaviour x.register).processes) (sym c.self.view_is) c.requires in
    slot_with_frames (g.met.R.Register.lawful c.self.inside.register) (g.met.R.Register.reports c.self.inside.register) c.self.inside.processes.items c.self.invariant c.args.who lt c.index_mut.result.now c.index_mut.ensures.value

pub invariant_of-self : goal.invariant_of-self
invariant_of-self g c =
    let lt = subst (λ x. c.args.who < (g.R.Behaves.behaviour x.register).processes) (sym c.self.view_is) c.requires in
    (proceeds (g.met.R.Register.lawful c.self.inside.register) (g.met.R.Register.reports c.self.inside.register) c.self.inside.processes.items c.self.invariant c.args.who lt
    c.index_mut.result.now c.index_mut.ensures.value c.proceed_own.result c.proceed_own.new.stack c.proceed_own.new.store (c.args.c == 1) c.proceed_own.ensures).flat

pub returns : goal.returns
returns g c =
    let lt = subst (λ x. c.args.who < (g.R.Behaves.behaviour x.register).processes) (sym c.self.view_is) c.requires in
    let did = proceeds (g.met.R.Register.lawful c.self.inside.register) (g.met.R.Register.reports c.self.inside.register) c.self.inside.processes.items c.self.invariant c.args.who lt
    c.index_mut.result.now c.index_mut.ensures.value c.proceed_own.result c.proceed_own.new.stack c.proceed_own.new.store (c.args.c == 1) c.proceed_own.ensures in
    record { events = rw (← c.self.view_is) did.events; after = rw (← c.self.view_is) did.after }
