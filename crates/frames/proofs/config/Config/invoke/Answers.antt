use Rattle.std.proofs.Common.{◌≡◌, true, sym, subst}
use Rattle.frames.proofs.Stepped.{invokes}
use Rattle.frames.proofs.config.Config.invoke.Goals as goal

pub invariant_of-self : goal.invariant_of-self
invariant_of-self g c =
    let fits = subst (λ x. (g.R.Behaves.behaviour x.register).suits c.args.who c.args.op ≡ true) (sym c.self.view_is) c.requires in
    (invokes (g.met.R.Register.lawful c.self.inside.register) (g.met.R.Register.reports c.self.inside.register) c.self.inside.processes.items c.self.invariant c.args.who ((g.met.R.Register.lawful c.self.inside.register).nobody_else c.args.who c.args.op fits)
    c.index_mut.result.now c.index_mut.ensures.value c.invoke_own.result c.invoke_own.new.stack c.invoke_own.new.store c.args.op fits c.invoke_own.ensures).flat

pub returns : goal.returns
returns g c =
    let fits = subst (λ x. (g.R.Behaves.behaviour x.register).suits c.args.who c.args.op ≡ true) (sym c.self.view_is) c.requires in
    let did = invokes (g.met.R.Register.lawful c.self.inside.register) (g.met.R.Register.reports c.self.inside.register) c.self.inside.processes.items c.self.invariant c.args.who ((g.met.R.Register.lawful c.self.inside.register).nobody_else c.args.who c.args.op fits)
    c.index_mut.result.now c.index_mut.ensures.value c.invoke_own.result c.invoke_own.new.stack c.invoke_own.new.store c.args.op fits c.invoke_own.ensures in
    record { events = rw (← c.self.view_is) did.events; after = rw (← c.self.view_is) did.after }
