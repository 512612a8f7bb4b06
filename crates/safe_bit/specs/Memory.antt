-- A store's contents: cells and words; and how one cell or one word is read or changed.
use Rattle.std.specs.Prelude.{ℕ, ◌<◌, ◌^◌, List, length, slice_set, slice_index_or, replicate, false}
use Rattle.safe_bit.specs.declared.Cell.{Cell}
use Rattle.safe_bit.specs.Actions.{idle_cell}

-- the contents of a store: cells, each of which is a safe bit, and words
pub record Memory : Type 0 where
  pub cells : List Cell
  pub words : List ℕ

-- there are fewer than 2^32 cells, and fewer than 2^32 words
pub record IsNumbered (m : Memory) : Type 0 where
  pub cells : length m.cells < 2 ^ 32
  pub words : length m.words < 2 ^ 32

-- an idle cell whose value is 0; a look-up beyond the last cell gives it
abbrev pub no_cell : Cell
no_cell = idle_cell false

-- a memory of `cells` idle cells, whose value is 0, and of `words` words, which are 0
abbrev pub blank : ℕ → ℕ → Memory
blank cells words = record { cells = replicate cells no_cell; words = replicate words 0 }

-- cell i of a memory; if there is no cell i, an idle cell whose value is 0
abbrev pub cell_at : ℕ → Memory → Cell
cell_at i m = slice_index_or m.cells i no_cell

-- word i of a memory; 0 if there is no word i
abbrev pub word_at : ℕ → Memory → ℕ
word_at i m = slice_index_or m.words i 0

-- memory m with f applied to cell i, and nothing else changed
abbrev pub on_cell : ℕ → (Cell → Cell) → Memory → Memory
on_cell i f m = record m { cells = slice_set m.cells i (f (cell_at i m)) }

-- memory m with word i set to x, and nothing else changed
abbrev pub with_word : ℕ → ℕ → Memory → Memory
with_word i x m = record m { words = slice_set m.words i x }
