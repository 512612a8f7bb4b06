use Rattle.frames.specs.laws.OwnMemory.{init_leaves_others, begin_leaves_others, go_leaves_others}
use Rattle.frames.proofs.laws.leaves_others.Goals as goal

pub returns-clause-init : goal.returns-clause-init
returns-clause-init g c =
    let r = c.args.register.now in
    λ at m value lies few. init_leaves_others (g.R.Behaves.behaviour r) (g.R.Register.Holds r) (g.R.Register.Reaches r) (g.met.R.Register.lawful r) at m value lies few

pub returns-clause-begin : goal.returns-clause-begin
returns-clause-begin g c =
    let r = c.args.register.now in
    λ at m who o lies holds fits. begin_leaves_others (g.R.Behaves.behaviour r) (g.R.Register.Holds r) (g.R.Register.Reaches r) (g.met.R.Register.lawful r) at m who o lies holds fits

pub returns-clause-go : goal.returns-clause-go
returns-clause-go g c =
    let r = c.args.register.now in
    λ at m who o p choice lies holds there. go_leaves_others (g.R.Behaves.behaviour r) (g.R.Register.Holds r) (g.R.Register.Reaches r) (g.met.R.Register.lawful r) at m who o p choice lies holds there
