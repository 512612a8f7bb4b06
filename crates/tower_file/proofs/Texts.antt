-- The bytes of lines.
use Rattle.std.proofs.Common.{◌≡◌, ℕ, true, List, [], ◌∷◌, ◌++◌, ap, ◌∙◌, append_assoc, arith}
use Rattle.std.specs.List.{list_all}
use Rattle.std.proofs.lemmas.Bool.Decides.{nat_tests}
use Rattle.words.specs.Words.{lines}
use Rattle.words.proofs.Texts.{all_weaker, is_not, is_printable, printable_is_no_line_end, cut_at}
use Rattle.tower_file.specs.Spelling.{text_with_end}
use Rattle.tower_file.specs.Reading.{is_file_byte}

-- a file may have each printable byte
pub printable_is_file_byte : (b : ℕ) → is_printable b ≡ true → is_file_byte b ≡ true
printable_is_file_byte b h = grind (arith, nat_tests)

-- a text with its line end and then more bytes: the text is the first line
pub lines-line : (t rest : List ℕ) → list_all is_printable t ≡ true → lines (text_with_end t ++ rest) ≡ t ∷ lines rest
lines-line t rest h =
    ap lines (append_assoc t (10 ∷ []) rest) ∙ cut_at 10 t rest (all_weaker is_printable (is_not 10) printable_is_no_line_end t h)
