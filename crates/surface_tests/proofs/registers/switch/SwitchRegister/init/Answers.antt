use Rattle.std.proofs.Common.{◌∙◌}
use Rattle.frames.specs.laws.Safe.{with_own_cell}
use Rattle.surface_tests.proofs.registers.switch.SwitchRegister.init.Goals as goal

pub returns : goal.returns
returns c = c.set_value.ensures ∙ with_own_cell c.args.at _ c.args.store.now c.requires.inside
