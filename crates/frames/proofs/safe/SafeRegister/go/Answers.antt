use Rattle.std.proofs.Common.{◌∙◌}
use Rattle.safe_bit.specs.Actions.{start_write, end_write, start_read, end_read}
use Rattle.frames.specs.laws.Safe.{on_own_cell}
use Rattle.frames.proofs.safe.SafeRegister.go.Goals as goal

pub returns-in-WriteStart-clause-memory : goal.returns-in-WriteStart-clause-memory
returns-in-WriteStart-clause-memory c =
    rw c.in-WriteStart.is (c.start_write.ensures ∙ on_own_cell c.args.at (start_write c.in-WriteStart.value) c.args.store.now c.requires.inside)

pub returns-in-WriteEnd-clause-memory : goal.returns-in-WriteEnd-clause-memory
returns-in-WriteEnd-clause-memory c =
    rw c.in-WriteEnd.is (c.end_write.ensures ∙ on_own_cell c.args.at end_write c.args.store.now c.requires.inside)

pub returns-in-ReadStart-clause-memory : goal.returns-in-ReadStart-clause-memory
returns-in-ReadStart-clause-memory c =
    rw c.in-ReadStart.is (c.start_read.ensures ∙ on_own_cell c.args.at start_read c.args.store.now c.requires.inside)

pub returns-then-was_hit-clause-memory : goal.returns-then-was_hit-clause-memory
returns-then-was_hit-clause-memory c =
    rw c.in-ReadEnd.is (c.end_read-given.ensures.after ∙ on_own_cell c.args.at end_read c.args.store.now c.requires.inside)

pub returns-else-was_hit-clause-memory : goal.returns-else-was_hit-clause-memory
returns-else-was_hit-clause-memory c =
    rw c.in-ReadEnd.is (c.end_read-given.ensures.after ∙ on_own_cell c.args.at end_read c.args.store.now c.requires.inside)
