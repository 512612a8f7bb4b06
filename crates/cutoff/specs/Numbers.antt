-- The number of a stored run or no number, in one word. The greatest word means no number.
use Rattle.std.specs.Prelude.{ℕ, ◌-◌, ◌^◌, nat_eq, Option, Some, None, if◌then◌else◌}

-- the number in this word; `None` if it is the greatest word
abbrev pub number_of_word : ℕ → Option ℕ
number_of_word word = if nat_eq word (2 ^ 64 - 1) then None else Some word

-- the word that has this number; the greatest word for `None`
abbrev pub word_of_number : Option ℕ → ℕ
word_of_number None = 2 ^ 64 - 1
word_of_number (Some number) = number
