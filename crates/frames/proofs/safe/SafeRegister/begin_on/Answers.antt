use Rattle.frames.specs.laws.Safe.{begin_lands}
use Rattle.frames.proofs.safe.SafeRegister.begin_on.Goals as goal

pub returns : goal.returns
returns c = rw c.push.ensures (begin_lands c.args._at c.args._store.now c.args._who c.args.op c.args.stack.now c.requires.inside c.requires.fits)
