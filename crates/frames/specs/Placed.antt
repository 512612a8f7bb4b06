-- How the bits and actions of a register are numbered in the store that it lies in.
use Rattle.std.specs.Prelude.{ℕ, ◌+◌, Bool, Option, Some, None}
use Rattle.safe_bit.specs.declared.Place.{Place}
use Rattle.frames.specs.declared.types.Action.{Action}

-- a bit of the register at place `at`, if any, and its value: the bit's number in the register
-- becomes its number in the store
abbrev pub placed_bit : Place → Option (ℕ × Bool) → Option (ℕ × Bool)
placed_bit at None = None
placed_bit at (Some bit) = Some (at.cell + bit.0, bit.1)

-- an action of the register at place `at`: the cell's number in the register becomes its number in
-- the store
abbrev pub placed_action : Place → Action → Action
placed_action at a = record a { cell = at.cell + a.cell }
