use Rattle.frames.specs.laws.Steps.{void_unless_enabled}
use Rattle.frames.proofs.laws.void_unless_enabled.Goals as goal

pub returns : goal.returns
returns g c = λ d s h. void_unless_enabled (g.R.Behaves.behaviour c.args.register.now) d s h
