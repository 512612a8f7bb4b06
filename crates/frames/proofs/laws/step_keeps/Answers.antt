use Rattle.frames.specs.laws.Steps.{step_keeps}
use Rattle.frames.proofs.laws.step_keeps.Goals as goal

pub returns : goal.returns
returns g c =
    let r = c.args.register.now in
    λ d s was fits. step_keeps (g.R.Behaves.behaviour r) (g.R.Register.Holds r) (g.R.Register.Reaches r) (g.met.R.Register.lawful r) d s was fits
