-- The ranges of the program's options.
use Rattle.std.specs.Prelude.{◌≤◌}
use Rattle.branch_terms.specs.declared.limits.TheConstants.{MOST_CELLS_MADE}
use Rattle.branch_terms.specs.declared.limits.Limits.{Limits}
use Rattle.command_line.specs.declared.options.Options.{Options}

-- Each option is in its range: 0 to 4 workers, 1 to 2^28 cells, 1 to 1,024 branches.
pub record AreOptionsInRange (o : Options) : Type 0 where
  pub few_workers : o.workers ≤ 4
  pub some_cells : 1 ≤ o.cells
  pub few_cells : o.cells ≤ MOST_CELLS_MADE
  pub some_branches : 1 ≤ o.branches
  pub few_branches : o.branches ≤ 1024

-- the limits on cells and branches that these options set, and the fixed limit on the log, which is
-- 1,048,576 commands
abbrev pub limits_of : Options → Limits
limits_of o = record { cells = o.cells; branches = o.branches; log = 1048576 }
