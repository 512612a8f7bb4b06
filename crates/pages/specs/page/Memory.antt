-- The lines of a page that show bit cells and words.
use Rattle.std.specs.Prelude.{ℕ, List, [], ◌∷◌, ◌++◌, Option, Some, None, Bool, codes, if◌then◌else◌}
use Rattle.std.specs.List.{flat_map}
use Rattle.std.specs.Fmt.{decimal}
use Rattle.safe_bit.specs.declared.Cell.{Cell}
use Rattle.pages.specs.Lines.{numbered_lines}
use Rattle.pages.specs.page.Head.{line_end}

-- a bit's value as text: `1` if it is true, else `0`
abbrev pub bit_name : Bool → List ℕ
bit_name v = if v then codes "1" else codes "0"

-- the value that a bit cell has
abbrev pub cell_value : Cell → Bool
cell_value c = c.value

-- one line with the values of all bit cells
abbrev pub bits_line : List Bool → List ℕ
bits_line bits = codes "  bits " ++ flat_map bit_name bits ++ line_end

-- a number after a space
abbrev pub after_space : ℕ → List ℕ
after_space w = codes " " ++ decimal w

-- all words, each after a space, or a dash if there are no words
abbrev pub words_text : List ℕ → List ℕ
words_text [] = codes " -"
words_text (w ∷ ws) = flat_map after_space (w ∷ ws)

-- one line with all words, or with a dash if there are no words
abbrev pub words_line : List ℕ → List ℕ
words_line words = codes "  words" ++ words_text words ++ line_end

-- the value being written to a cell, or a dash if no write is in progress
abbrev pub writing_name : Option Bool → List ℕ
writing_name None = codes "-"
writing_name (Some v) = bit_name v

-- a dash if no read of a cell is in progress; else `h` if a write of the cell has overlapped the
-- read, and `r` if none has
abbrev pub reading_name : Cell → List ℕ
reading_name c = if c.reading then (if c.hit then codes "h" else codes "r") else codes "-"

-- the line of a cell: its number, its value, the value being written to it or a dash, and `h`, `r`
-- or a dash for the read in progress
abbrev pub bit_cell_line : ℕ → Cell → List ℕ
bit_cell_line j c =
    codes "  " ++ decimal j ++ codes " " ++ bit_name c.value ++ codes " " ++ writing_name c.writing ++ codes " " ++ reading_name c ++ line_end

-- a line for each bit cell, numbered from 0
abbrev pub bit_cell_lines : List Cell → List ℕ
bit_cell_lines cells = numbered_lines bit_cell_line 0 cells
