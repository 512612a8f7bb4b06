use Rattle.std.proofs.Common.{replicate, ap, ◌∙◌}
use Rattle.frames.specs.StoredConfiguration.{idle}
use Rattle.frames.proofs.Stacks.{first_is_initial, first_flat}
use Rattle.frames.proofs.config.Config.initial.Goals as goal

pub invariant_of-result : goal.invariant_of-result
invariant_of-result g c =
    let r = c.args.register in
    first_flat (g.R.Behaves.behaviour r) (g.R.Register.Holds r) (g.R.Register.Reaches r) (g.R.Register.point r) (g.met.R.Register.lawful r) r c.args.value c.requires
    c.in_ok-store.store c.in_ok-processes.processes.items c.in_ok-store.ensures (c.in_ok-processes.ensures ∙ ap (λ n. replicate n idle) c.processes.ensures)

pub returns : goal.returns
returns g c =
    let r = c.args.register in
    first_is_initial (g.R.Behaves.behaviour r) (g.R.Register.Holds r) (g.R.Register.Reaches r) (g.R.Register.point r) (g.met.R.Register.lawful r) r c.args.value c.requires
    c.in_ok-store.store c.in_ok-processes.processes.items c.in_ok-store.ensures (c.in_ok-processes.ensures ∙ ap (λ n. replicate n idle) c.processes.ensures)
