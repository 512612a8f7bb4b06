use Rattle.std.proofs.Common.{refl}
use Rattle.std.proofs.Math.Seq.{map-set_same}
use Rattle.std.proofs.lemmas.List.{map-set}
use Rattle.frames.proofs.config.mark_stopped.Goals as goal

pub returns-clause-stacks : goal.returns-clause-stacks
returns-clause-stacks c = map-set_same (λ p. p.stack) c.args.processes.now c.args.who _ c.index-processes-who.result refl

pub returns-clause-marks : goal.returns-clause-marks
returns-clause-marks c = map-set (λ p. p.stopped) c.args.processes.now c.args.who _
