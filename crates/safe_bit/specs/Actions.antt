-- A safe bit and its four actions (Lamport, "On Interprocess Communication", 1986, safe registers).
-- It is this project's own choice that a write takes two actions, and a read two.
use Rattle.std.specs.Prelude.{Bool, false, true, Some, None, ◌||◌, is_some, if◌then◌else◌, unwrap_or}
use Rattle.safe_bit.specs.declared.Cell.{Cell}

-- a cell that holds this value, with no write and no read in progress
abbrev pub idle_cell : Bool → Cell
idle_cell v = record { value = v; writing = None; reading = false; hit = false }

-- a write of v starts: v is now the value being written, and a read in progress is hit
abbrev pub start_write : Bool → Cell → Cell
start_write v c = record c { writing = Some v; hit = c.hit || c.reading }

-- a write ends: the cell takes the value being written; if there is none, nothing changes
abbrev pub end_write : Cell → Cell
end_write c = record c { value = unwrap_or c.writing c.value; writing = None }

-- a read starts: the cell is being read, and the read is hit if a write is in progress
abbrev pub start_read : Cell → Cell
start_read c = record c { reading = true; hit = is_some c.writing }

-- a read ends: no read is in progress any more, and none is hit
abbrev pub end_read : Cell → Cell
end_read c = record c { reading = false; hit = false }

-- the result of a read that ends: the choice if the read was hit, else the cell's value
abbrev pub read_gives : Bool → Cell → Bool
read_gives choice c = if c.hit then choice else c.value
