use Rattle.std.proofs.Common.{◌≡◌, ◌≤◌, ◌++◌, drop, map}
use Rattle.answers.specs.Packing.{packed, by_gaps, cell_code}
use Rattle.answers.proofs.packing.add_cells.Given as goal

-- what is written, with the cells that are left, is the whole
abbrev pub invariant-loop-cell : goal.invariant-loop-cell
invariant-loop-cell l = record {
  written : l.bytes.items ++ packed (by_gaps l.gap (map cell_code (drop l.cell-index l.cells))) ≡ l.initial.bytes.items ++ packed (by_gaps 0 (map cell_code l.cells));
  low : l.gap ≤ l.cell-index;
}
