-- Renumbering: two forests that are equal except for their cells' numbers, and how many were made.
use Rattle.std.specs.Prelude.{◌≡◌, ◌<◌, ℕ, Bool, nat_eq, List, length, map}
use Rattle.branch_terms.specs.Forest.{Forest, Branch, slots_in, step_of, cell_in, name_of}

-- whether branch i at place k and branch j at place m have the same cell
abbrev pub is_one_cell : List Branch → ℕ → ℕ → ℕ → ℕ → Bool
is_one_cell branches i k j m = nat_eq (cell_in (slots_in branches i) k) (cell_in (slots_in branches j) m)

-- Two forests are equal except for the numbers of their cells, and for how many cells were ever
-- made: they have the same names in the same order, and the same steps on each branch; and two
-- places of branches have the same cell in one forest exactly if they have the same cell in the
-- other.
pub record IsRenumbered (f g : Forest) : Type 0 where
  pub names : map name_of f.branches ≡ map name_of g.branches
  pub steps : (i : ℕ) → map step_of (slots_in f.branches i) ≡ map step_of (slots_in g.branches i)
  pub cells : (i k j m : ℕ) → k < length (slots_in f.branches i) → m < length (slots_in f.branches j)
      → is_one_cell f.branches i k j m ≡ is_one_cell g.branches i k j m
