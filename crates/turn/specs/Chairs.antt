-- Chairs of a turn: what each knows, and whether it belongs to a given turn.
use Rattle.std.specs.Prelude.{◌≡◌}
use Rattle.turn.specs.declared.view.View.{View}
use Rattle.turn.specs.declared.chair.Chair.{Chair}
use Rattle.turn.specs.declared.turn.Turn.{Turn}

-- a chair's view: what the chair knows of the list of its turn's value
abbrev pub view : {T E : Type 0} {g : _} → Chair T E g → View E
view chair = chair.access.me.0

-- the chair belongs to this turn
abbrev pub IsOf : {T E : Type 0} {g : _} → Turn T E → Chair T E g → Type 0
IsOf turn chair = chair.access.table_id ≡ turn.table.shared.table_id
