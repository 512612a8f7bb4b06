use Rattle.std.proofs.Common.{◌≡◌, map, take}
use Rattle.pages.specs.page.Memory.{cell_value}
use Rattle.pages.proofs.page.memory.cell_values.Given as goal

abbrev pub invariant-loop-cell : goal.invariant-loop-cell
invariant-loop-cell l = l.all.items ≡ map cell_value (take l.cell-index l.cells)
