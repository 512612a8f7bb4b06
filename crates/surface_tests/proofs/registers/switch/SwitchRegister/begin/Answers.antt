use Rattle.std.proofs.Common.{sym}
use Rattle.safe_bit.specs.laws.Parts.{with_part-own}
use Rattle.surface_tests.specs.Switch.{switch_size}
use Rattle.surface_tests.proofs.registers.switch.SwitchRegister.begin.Goals as goal

pub returns-clause-memory : goal.returns-clause-memory
returns-clause-memory c = sym (with_part-own c.args._at switch_size c.args._store.now c.requires.inside)
