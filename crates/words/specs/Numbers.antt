-- Numbers in a line: how words spell one, and how as many words as numbers spell several.
use Rattle.std.specs.Prelude.{ℕ, List, [], ◌∷◌, Option, Some, None, Bool, false, ◌==◌, ◌&&◌, ◌||◌, not, nat_le, length, if◌then◌else◌}
use Rattle.std.specs.List.{list_all}
use Rattle.std.specs.Char.{is_ascii_digit}
use Rattle.std.specs.Str.Parse.{digits_value}
use Rattle.words.specs.Words.{next, after_next, is_end}
use Rattle.words.specs.Options.{◌>>=◌}

-- whether a word spells a number: `0`, or a digit from 1 to 9 followed by digits, at most 9 in all
abbrev pub is_number : List ℕ → Bool
is_number [] = false
is_number (d ∷ ds) = (nat_le (length ds) 8 && (not (d == 48) || length ds == 0)) && list_all is_ascii_digit (d ∷ ds)

-- the number that a word spells; `None` if it spells none
abbrev pub number : List ℕ → Option ℕ
number word = if is_number word then Some (digits_value 10 word) else None

-- the number that one word spells; `None` if the word isn't a number, or if more words follow
abbrev pub one_number : List (List ℕ) → Option ℕ
one_number ws = do
  a ← number (next ws)
  if is_end (after_next ws) then Some a else None

-- the two numbers that two words spell; `None` if one of these isn't a number, or if more words
-- follow
abbrev pub two_numbers : List (List ℕ) → Option (ℕ × ℕ)
two_numbers ws = do
  a ← number (next ws)
  b ← one_number (after_next ws)
  Some (a, b)

-- the three numbers that three words spell; `None` if one of these isn't a number, or if more words
-- follow
abbrev pub three_numbers : List (List ℕ) → Option (ℕ × ℕ × ℕ)
three_numbers ws = do
  a ← number (next ws)
  b ← two_numbers (after_next ws)
  Some (a, b.0, b.1)

-- the four numbers that four words spell; `None` if one of these isn't a number, or if more words
-- follow
abbrev pub four_numbers : List (List ℕ) → Option (ℕ × ℕ × ℕ × ℕ)
four_numbers ws = do
  a ← number (next ws)
  b ← three_numbers (after_next ws)
  Some (a, b.0, b.1, b.2)
