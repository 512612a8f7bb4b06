-- Numbers at the front of a text.
use Rattle.std.specs.Prelude.{◌≡◌, ℕ, ◌<◌, Bool, false, List, [], ◌∷◌}
use Rattle.std.specs.Char.{is_ascii_digit}

-- whether a text begins with a digit
abbrev pub begins_with_digit : List ℕ → Bool
begins_with_digit [] = false
begins_with_digit (b ∷ bs) = is_ascii_digit b

-- The number n was read to its last digit: the text `left`, which follows n, doesn't begin with a
-- digit. Nothing is required of `left` if n is 0 or has at least nine digits, because no number is
-- written with more than nine digits, and none but 0 itself begins with the digit 0.
abbrev pub IsWholeNumber : ℕ → List ℕ → Type 0
IsWholeNumber n left = 0 < n → n < 100000000 → begins_with_digit left ≡ false
