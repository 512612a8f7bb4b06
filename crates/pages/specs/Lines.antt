-- Lines for the items of a list, each with its number.
use Rattle.std.specs.Prelude.{ℕ, ◌+◌, List, [], ◌∷◌, ◌++◌, codes}
use Rattle.pages.specs.page.Head.{line_end}

-- a line for each item of a list; `line` makes it from the item and its number, which is i for the
-- first item, i + 1 for the second, and so on
abbrev pub numbered_lines : {A : Type 0} → (ℕ → A → List ℕ) → ℕ → List A → List ℕ
numbered_lines line i [] = []
numbered_lines line i (x ∷ xs) = line i x ++ numbered_lines line (i + 1) xs

-- a line for each item of a list, numbered from 0, or the line `none` if the list is empty
abbrev pub lines_or_none : {A : Type 0} → (ℕ → A → List ℕ) → List A → List ℕ
lines_or_none line [] = codes "  none" ++ line_end
lines_or_none line (x ∷ xs) = numbered_lines line 0 (x ∷ xs)
