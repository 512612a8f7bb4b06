use Rattle.std.proofs.Common.{◌≡◌, ◌<◌, sym, subst}
use Rattle.frames.specs.Configuration.{is_stopped}
use Rattle.frames.proofs.Stepped.{mark_there}
use Rattle.frames.proofs.config.Config.has_stopped.Goals as goal

pub returns : goal.returns
returns g c =
    let r = c.self.inside.register in
    let lt = subst (λ x. c.args.who < (g.R.Behaves.behaviour x.register).processes) (sym c.self.view_is) c.requires in
    let mark = mark_there (g.met.R.Register.lawful r) (g.met.R.Register.reports r) c.self.inside.processes.items c.self.invariant c.args.who lt c.index.result.now c.index.ensures in
    sym (subst (λ x. is_stopped c.args.who x ≡ c.index.result.now.stopped) c.self.view_is mark)
