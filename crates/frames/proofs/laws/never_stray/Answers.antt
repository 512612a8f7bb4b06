use Rattle.frames.proofs.NeverStray.{atomic_never_stray, regular_never_stray}
use Rattle.frames.proofs.laws.never_stray.Goals as goal

pub returns-clause-regular : goal.returns-clause-regular
returns-clause-regular g c = λ regular. regular_never_stray (g.R.Behaves.behaviour c.args.register.now) regular

pub returns-clause-atomic : goal.returns-clause-atomic
returns-clause-atomic g c = λ atomic. atomic_never_stray (g.R.Behaves.behaviour c.args.register.now) atomic
