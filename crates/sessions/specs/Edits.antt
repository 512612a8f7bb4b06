-- Commands that edit: what each does to the branches and to the cursors.
use Rattle.std.specs.Prelude.{Bool, false, ◌&&◌, nat_lt, List, Option, Some, None, is_some, length}
use Rattle.schedule_trie.specs.Forest.{Forest, len_of}
use Rattle.schedule_trie.specs.Edits.{Edit, Insert, Remove, Replace, Fork, Detach, Drop}
use Rattle.sessions.specs.declared.cursor.Cursor.{Cursor}
use Rattle.sessions.specs.declared.cursor.Shift.TheVariants as shift
use Rattle.sessions.specs.declared.command.Command.{Command}
use Rattle.sessions.specs.declared.command.Command.TheVariants as command
use Rattle.sessions.specs.Cursors.{shifted, each_cursor, is_occupied}

-- the edit that a command makes; `None` if the command isn't an edit
abbrev pub edit_of : Command → Option Edit
edit_of (command.Insert branch place step) = Some (Insert branch place step)
edit_of (command.Remove branch place) = Some (Remove branch place)
edit_of (command.Replace branch place step) = Some (Replace branch place step)
edit_of (command.Fork branch place name) = Some (Fork branch place name)
edit_of (command.Detach branch) = Some (Detach branch)
edit_of (command.Drop branch) = Some (Drop branch)
edit_of c = None

-- the cursors after an edit of the branches f; only an insert or a remove moves cursors
abbrev pub moved_by : Edit → Forest → List (Option Cursor) → List (Option Cursor)
moved_by (Insert branch place step) f cursors = each_cursor (shifted shift.Up f branch place) cursors
moved_by (Remove branch place) f cursors = each_cursor (shifted shift.Down f branch place) cursors
moved_by edit f cursors = cursors

-- whether an edit drops a branch that has a cursor on it
abbrev pub drops_occupied : Edit → List (Option Cursor) → Bool
drops_occupied (Drop branch) cursors = is_occupied branch cursors
drops_occupied edit cursors = false

-- whether only a cursor prevents a drop of a branch, which exists and isn't the only one; false for
-- any other edit
abbrev pub is_held_up : Edit → Forest → List (Option Cursor) → Bool
is_held_up (Drop branch) f cursors = is_some (len_of f branch) && (nat_lt 1 (length f.branches) && is_occupied branch cursors)
is_held_up edit f cursors = false
