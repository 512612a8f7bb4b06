-- The page that shows each bit cell and each word.
use Rattle.std.specs.Prelude.{ℕ, List, ◌++◌, codes}
use Rattle.frames.specs.Configuration.{Configuration}
use Rattle.pages.specs.declared.page.head.Head.{Head}
use Rattle.pages.specs.declared.page.bits.BitsPage.{BitsPage}
use Rattle.pages.specs.page.Head.{head_line}
use Rattle.pages.specs.page.Memory.{bit_cell_lines, words_line}

-- the page that shows each bit cell and each word of a configuration's memory
abbrev pub bits_page : {R P : Type 0} → Head → Configuration R P → BitsPage
bits_page head c = record { head = head; cells = c.memory.cells; words = c.memory.words }

-- the text of a page of bit cells and words, as the answer to the session with this number
abbrev pub bits_text : ℕ → BitsPage → List ℕ
bits_text session p = head_line session (codes "bits") p.head ++ bit_cell_lines p.cells ++ words_line p.words
