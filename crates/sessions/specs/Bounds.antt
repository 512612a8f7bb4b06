-- Bounds on places, and on what a workspace has.
use Rattle.std.specs.Prelude.{ℕ, ◌<◌, ◌≤◌, ◌^◌, ◌≡◌, List, Option, IfSome, length}
use Rattle.sessions.specs.declared.cursor.Cursor.{Cursor}
use Rattle.sessions.specs.Cursors.{cursor_at}
use Rattle.sessions.specs.declared.workspace.Workspace.{Workspace}
use Rattle.branch_terms.specs.declared.limits.TheConstants.{MOST_CELLS_MADE}

-- a place fits in 32 bits
abbrev pub FitsU32 : ℕ → Type 0
FitsU32 place = place < 2 ^ 32

-- each cursor's place is at most the number of cells that can ever be made
abbrev pub AreWithin : List (Option Cursor) → Type 0
AreWithin cursors = (who : ℕ) → IfSome (cursor_at cursors who) (λ c. c.place ≤ MOST_CELLS_MADE)

-- what a workspace needs so that a command can be carried out: its cursors are within their bounds,
-- it has sixteen lists of breaks, and one more edit can be counted, since at most as many were
-- accepted as the longest log has entries
pub record CanAct {R P : Type 0} (s : Workspace R P) : Type 0 where
  pub within : AreWithin s.cursors
  pub breaks : length s.breaks.items ≡ 16
  pub few_edits : s.edits ≤ 1048576
