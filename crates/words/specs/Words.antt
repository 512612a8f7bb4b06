-- The parts of a text, which are its pieces between separators: a file's lines, or a line's words. And
-- the text of a word with numbers.
use Rattle.std.specs.Prelude.{ℕ, List, [], ◌∷◌, ◌++◌, decimal, Option, Some, None, Bool, true, false, ◌==◌}
use Rattle.std.specs.List.{flat_map, slice_split}

-- the parts of a text, which is cut at each byte that equals c
abbrev pub parts : ℕ → List ℕ → List (List ℕ)
parts c text = slice_split (λ b. b == c) text

-- the lines of a text, which is cut at line ends; the last line is what follows the last line end
abbrev pub lines : List ℕ → List (List ℕ)
lines text = parts 10 text

-- the words of a line, which is cut at spaces
abbrev pub words : List ℕ → List (List ℕ)
words line = parts 32 line

-- the parts of the text that isn't taken yet, cut at each byte that equals c; no parts if no text
-- is left
abbrev pub parts_left : ℕ → Option (List ℕ) → List (List ℕ)
parts_left c None = []
parts_left c (Some text) = parts c text

-- the next part, which is the first of these parts; an empty part if no part is left
abbrev pub next : List (List ℕ) → List ℕ
next [] = []
next (part ∷ others) = part

-- the parts that are left after the first of them is taken
abbrev pub after_next : List (List ℕ) → List (List ℕ)
after_next [] = []
after_next (part ∷ others) = others

-- whether no part is left
abbrev pub is_end : List (List ℕ) → Bool
is_end [] = true
is_end (part ∷ others) = false

-- a word and then, for each number, a space and the number in decimal
abbrev pub word_with_numbers : List ℕ → List ℕ → List ℕ
word_with_numbers word numbers = word ++ flat_map (λ n. 32 ∷ decimal n) numbers
