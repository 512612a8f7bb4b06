-- The part of a memory that lies at a place: a register's own cells and words.
use Rattle.std.proofs.Common.{◌≡◌, ◌+◌, ◌<◌, ◌≤◌, ◌^◌, ◌⊎◌, length}
use Rattle.safe_bit.specs.declared.Place.{Place}
use Rattle.safe_bit.specs.Memory.{Memory}
use Rattle.safe_bit.specs.Windows.{window, splice}

-- the memory has exactly this size, in cells and in words
pub record HasSize (size : Place) (m : Memory) : Type 0 where
  pub cells : length m.cells ≡ size.cell
  pub words : length m.words ≡ size.word

-- a part of this size at this place lies wholly inside the memory
pub record LiesIn (at size : Place) (m : Memory) : Type 0 where
  pub cells : at.cell + size.cell ≤ length m.cells
  pub words : at.word + size.word ≤ length m.words

-- a part of size s at offset q lies wholly inside a memory of this size
pub record Within (q s size : Place) : Type 0 where
  pub cells : q.cell + s.cell ≤ size.cell
  pub words : q.word + s.word ≤ size.word

-- the part of this size at place `at` ends below 2^32, in cells and in words
pub record IsPlaced (at size : Place) : Type 0 where
  pub cells : at.cell + size.cell < 2 ^ 32
  pub words : at.word + size.word < 2 ^ 32

-- the first place: cell 0 and word 0
abbrev pub origin : Place
origin = record { cell = 0; word = 0 }

-- the place at offset q from the place `at`
abbrev pub place_after : Place → Place → Place
place_after at q = record { cell = at.cell + q.cell; word = at.word + q.word }

-- the part of the memory that has this size and lies at this place
abbrev pub part : Place → Place → Memory → Memory
part at size m = record { cells = window at.cell size.cell m.cells; words = window at.word size.word m.words }

-- memory m with the part at place `at` replaced by `inner`, and nothing else changed
abbrev pub with_part : Place → Memory → Memory → Memory
with_part at inner m = record { cells = splice at.cell inner.cells m.cells; words = splice at.word inner.words m.words }

-- two parts don't overlap: one has size s and lies at a, the other has size t and lies at b
pub record Apart (a s b t : Place) : Type 0 where
  pub cells : (a.cell + s.cell ≤ b.cell) ⊎ (b.cell + t.cell ≤ a.cell)
  pub words : (a.word + s.word ≤ b.word) ⊎ (b.word + t.word ≤ a.word)
