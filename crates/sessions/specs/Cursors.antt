-- Cursors of sessions: their places, and how an edit moves them.
use Rattle.std.specs.Prelude.{ℕ, ◌≡◌, ◌+◌, ◌-◌, Bool, ◌&&◌, false, nat_eq, nat_lt, List, Option, Some, None, Ok, map, is_some, IfSome, slice_index_or, if◌then◌else◌}
use Rattle.std.specs.List.{list_any}
use Rattle.std.specs.Option.{option_map}
use Rattle.std.specs.Cmp.Lexicographic.{pointwise}
use Rattle.schedule_trie.specs.Forest.{Forest, cell_on_branch, place_of, name_in}
use Rattle.cutoff.specs.Charts.{look}
use Rattle.sessions.specs.declared.cursor.Cursor.{Cursor}
use Rattle.sessions.specs.declared.cursor.Shift.{Shift}
use Rattle.sessions.specs.declared.cursor.Shift.TheVariants.{Up, Down}

-- the cursor at a place of a branch
abbrev pub cursor : List ℕ → ℕ → Cursor
cursor branch place = record { branch = branch; place = place }

-- the cursor of a session; `None` if there is no such session or it hasn't joined
abbrev pub cursor_at : List (Option Cursor) → ℕ → Option Cursor
cursor_at cursors who = slice_index_or cursors who None

-- a joining session's cursor, at the beginning of the first branch; `None` if there is no branch
abbrev pub first_cursor : Forest → Option Cursor
first_cursor f = option_map (λ name. cursor name 0) (name_in f.branches 0)

-- whether an insert or a remove on `branch` changes the branch `other`: at a cell, the first
-- argument, it changes each branch that has the cell; at the end of `branch` (`None`) it changes
-- `branch` alone
abbrev pub acts_in : Option ℕ → Forest → List ℕ → List ℕ → Bool
acts_in None f branch other = pointwise nat_eq branch other
acts_in (Some cell) f branch other = is_some (place_of f other cell)

-- whether an insert or a remove at `place` of `branch` moves the cursor c: c is on a branch that
-- the edit changes, and is after `place`; f is the forest before the edit
abbrev pub is_shifted_by : Forest → List ℕ → ℕ → Cursor → Bool
is_shifted_by f branch place c = acts_in (cell_on_branch f branch place) f branch c.branch && nat_lt place c.place

-- the new place of a cursor that an edit moves: one more (Up, an insert) or one less (Down)
abbrev pub shifted_place : Shift → ℕ → ℕ
shifted_place Up place = place + 1
shifted_place Down place = place - 1

-- the cursor c after an insert (Up) or a remove (Down) at `place` of `branch`; f is the forest
-- before the edit
abbrev pub shifted : Shift → Forest → List ℕ → ℕ → Cursor → Cursor
shifted shift f branch place c = if is_shifted_by f branch place c then cursor c.branch (shifted_place shift c.place) else c

-- the cursors after `change` is applied to each; `None` stays `None`
abbrev pub each_cursor : (Cursor → Cursor) → List (Option Cursor) → List (Option Cursor)
each_cursor change cursors = map (option_map change) cursors

-- whether there is a cursor and its place, on whatever branch, is after `place`
abbrev pub is_after_place : ℕ → Option Cursor → Bool
is_after_place place None = false
is_after_place place (Some c) = nat_lt place c.place

-- whether there is a cursor and it is on this branch
abbrev pub is_on_branch : List ℕ → Option Cursor → Bool
is_on_branch branch None = false
is_on_branch branch (Some c) = pointwise nat_eq branch c.branch

-- whether some cursor is on this branch
abbrev pub is_occupied : List ℕ → List (Option Cursor) → Bool
is_occupied branch cursors = list_any (is_on_branch branch) cursors

-- a cursor is at a place that exists: its branch exists, and isn't shorter than the cursor's place
abbrev pub IsAtPlace : Forest → Cursor → Type 0
IsAtPlace f c = look f c.branch c.place ≡ Ok f

-- each cursor is at a place that exists
abbrev pub AreAtPlaces : Forest → List (Option Cursor) → Type 0
AreAtPlaces f cursors = (who : ℕ) → IfSome (cursor_at cursors who) (IsAtPlace f)
