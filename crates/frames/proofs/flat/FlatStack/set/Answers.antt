use Rattle.frames.specs.laws.Flat.{take_of_set}
use Rattle.frames.proofs.flat.FlatStack.set.Goals as goal

pub returns : goal.returns
returns c = rw (← c.self.view_is) (take_of_set c.args.index c.self.inside.count c.self.inside.frames c.args.frame)
