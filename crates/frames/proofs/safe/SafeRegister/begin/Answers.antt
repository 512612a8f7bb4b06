use Rattle.frames.specs.laws.Safe.{begin_leaves_memory}
use Rattle.frames.proofs.safe.SafeRegister.begin.Goals as goal

pub returns-in-Write-clause-memory : goal.returns-in-Write-clause-memory
returns-in-Write-clause-memory c = begin_leaves_memory c.args._at c.args._store.now c.args._who c.args.op c.requires.inside

pub returns-in-Read-clause-memory : goal.returns-in-Read-clause-memory
returns-in-Read-clause-memory c = begin_leaves_memory c.args._at c.args._store.now c.args._who c.args.op c.requires.inside
