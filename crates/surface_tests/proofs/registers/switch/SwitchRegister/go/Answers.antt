use Rattle.std.proofs.Common.{◌∙◌, sym}
use Rattle.safe_bit.specs.laws.Parts.{with_part-own}
use Rattle.frames.specs.laws.Safe.{with_own_cell}
use Rattle.surface_tests.specs.Switch.{switch_size}
use Rattle.surface_tests.proofs.registers.switch.SwitchRegister.go.Goals as goal

pub returns-in-Write-clause-memory : goal.returns-in-Write-clause-memory
returns-in-Write-clause-memory c = rw c.in-Write.is (c.set_value.ensures ∙ with_own_cell c.args.at _ c.args.store.now c.requires.inside)

pub returns-in-Read-clause-memory : goal.returns-in-Read-clause-memory
returns-in-Read-clause-memory c = rw c.in-Read.is (sym (with_part-own c.args.at switch_size c.args.store.now c.requires.inside))
