-- Limbs: the branches of a forest as a file stores them.
use Rattle.std.specs.Prelude.{ℕ, zero, suc, ◌≡◌, ◌<◌, ◌≤◌, ◌+◌, Bool, true, false, not, ◌&&◌, ◌||◌, nat_eq, nat_le, nat_lt, List, [], ◌∷◌, ◌++◌, Option, Some, None, Result, Ok, Err, length, map, take, drop, slice_get, if◌then◌else◌}
use Rattle.std.specs.List.{All, list_all, list_any, prefix_len, position_or_len}
use Rattle.std.specs.Cmp.Lexicographic.{pointwise}
use Rattle.branch_terms.specs.declared.slot.Slot.{Slot}
use Rattle.branch_terms.specs.declared.limb.Limb.{Limb}
use Rattle.branch_terms.specs.declared.limits.Limits.{Limits}
use Rattle.branch_terms.specs.declared.refusal.Refusal.{Refusal}
use Rattle.branch_terms.specs.declared.refusal.Refusal.TheVariants.{Full, TooManyBranches}
use Rattle.branch_terms.specs.Names.{is_well_formed}
use Rattle.branch_terms.specs.Forest.{Forest, Branch, branch, numbered, slots_in, step_of, is_cell, cell_in, name_of}

-- whether the cell with number x is in a list of cells
abbrev pub has_slot : ℕ → List Slot → Bool
has_slot x slots = list_any (is_cell x) slots

-- whether a branch has the cell with number x
abbrev pub holds : ℕ → Branch → Bool
holds x b = has_slot x b.slots

-- whether a cell is on one of these branches
abbrev pub is_in_branches : List Branch → Slot → Bool
is_in_branches branches s = list_any (holds s.cell) branches

-- how many of its first cells a branch shares with earlier branches: those before the first cell
-- that no earlier branch has, or all its cells if there is no such cell
abbrev pub shared_with : List Branch → List Slot → ℕ
shared_with earlier slots = prefix_len (is_in_branches earlier) slots

-- the index of the first earlier branch that has the n-th of these cells (counted from 1), or the
-- number of earlier branches if none has that cell; 0 if n is 0
abbrev pub first_with : List Branch → List Slot → ℕ → ℕ
first_with earlier slots zero = 0
first_with earlier slots (suc k) = position_or_len (holds (cell_in slots k)) earlier

-- the limb of a branch, given all earlier branches: its name; the index of the first earlier branch
-- that has the last shared cell (0 if no cell is shared); the number of shared cells; and the steps
-- of the cells after these
abbrev pub limb_of : List Branch → Branch → Limb
limb_of earlier b =
    record {
      name = b.name;
      from = first_with earlier b.slots (shared_with earlier b.slots);
      shared = shared_with earlier b.slots;
      steps = map step_of (drop (shared_with earlier b.slots) b.slots);
    }

-- the limbs of consecutive branches, given all earlier branches
abbrev pub limbs_after : List Branch → List Branch → List Limb
limbs_after earlier [] = []
limbs_after earlier (b ∷ bs) = limb_of earlier b ∷ limbs_after (earlier ++ b ∷ []) bs

-- what a file stores of a forest's branches: the limb of each, in order
abbrev pub limbs : Forest → List Limb
limbs f = limbs_after [] f.branches

-- the cells of a limb's branch, if it is added to a forest: the cells that the limb shares, and
-- then new cells with the limb's steps
abbrev pub slots_on : Forest → Limb → List Slot
slots_on f l = take l.shared (slots_in f.branches l.from) ++ numbered f.made l.steps

-- the forest after a limb's branch is added at the end of the list of branches, with the cells of
-- `slots_on`
abbrev pub with_limb : Forest → Limb → Forest
with_limb f l = record { branches = f.branches ++ branch l.name (slots_on f l) ∷ []; made = f.made + length l.steps }

-- the forest after the branches of several limbs are added, one after the other
abbrev pub with_limbs : Forest → List Limb → Forest
with_limbs f [] = f
with_limbs f (l ∷ ls) = with_limbs (with_limb f l) ls

-- the forest without branches, in which no cell has been made yet
abbrev pub no_branches : Forest
no_branches = record { branches = []; made = 0 }

-- the forest that limbs describe: a branch for each limb, with the cells numbered in the order of
-- the limbs' steps
abbrev pub forest_of : List Limb → Forest
forest_of ls = with_limbs no_branches ls

-- the number of all cells, shared and own, of a limb's branch
abbrev pub limb_length : Limb → ℕ
limb_length l = l.shared + length l.steps

-- the number of own cells of several limbs in total, which is the number of their steps
abbrev pub own_cell_count : List Limb → ℕ
own_cell_count [] = 0
own_cell_count (l ∷ ls) = length l.steps + own_cell_count ls

-- whether a name has the form of a branch's name: a lower-case letter, then at most 15 lower-case
-- letters or digits
abbrev pub is_name : List ℕ → Bool
is_name name = nat_le (length name) 16 && is_well_formed name

-- the name of each branch is a lower-case letter, then at most 15 lower-case letters or digits
abbrev pub HaveNames : List Branch → Type 0
HaveNames branches = list_all is_name (map name_of branches) ≡ true

-- whether a limb has this name
abbrev pub has_name : List ℕ → Limb → Bool
has_name name l = pointwise nat_eq name l.name

-- whether a name has the form of a branch's name, and no earlier limb has it
abbrev pub is_new_name : List Limb → List ℕ → Bool
is_new_name earlier name = is_name name && not (list_any (has_name name) earlier)

-- whether the k-th cell (counted from 1) of the given limb's branch is one of its own cells, which
-- follow its shared cells; false if no limb is given
abbrev pub is_own_of : Option Limb → ℕ → Bool
is_own_of None k = false
is_own_of (Some p) k = nat_lt p.shared k && nat_le k (limb_length p)

-- whether a limb may follow the earlier ones, judged by the cells that it shares: either its `from`
-- and `shared` are 0, or the last cell that it shares is among the cells of the limb at index
-- `from` that follow its shared ones
abbrev pub may_share : List Limb → Limb → Bool
may_share earlier l = (nat_eq l.from 0 && nat_eq l.shared 0) || is_own_of (slice_get earlier l.from) l.shared

-- whether these limbs may follow the limbs `earlier`, one after the other: each has a name of the
-- right form that no limb before it has, and satisfies `may_share`
abbrev pub are_lawful_after : List Limb → List Limb → Bool
are_lawful_after earlier [] = true
are_lawful_after earlier (l ∷ ls) = is_new_name earlier l.name && (may_share earlier l && are_lawful_after (earlier ++ l ∷ []) ls)

-- each limb may follow the limbs before it: its name has the form of a branch's name, and no
-- earlier limb has it; and either its `from` and `shared` are 0, or the last cell that it shares is
-- one of the own cells of the limb at index `from`
abbrev pub AreLawfulLimbs : List Limb → Type 0
AreLawfulLimbs ls = are_lawful_after [] ls ≡ true

-- each limb's `from` is below the limit of branches, and its `shared` is at most the limit of cells
abbrev pub FitLimits : Limits → List Limb → Type 0
FitLimits limits ls = All (λ l. (l.from < limits.branches) × (l.shared ≤ limits.cells)) ls

-- the forest that limbs describe; or Full if they have more own cells in total than the limit of
-- cells; or else TooManyBranches if there are more limbs than the limit of branches
abbrev pub loaded : Limits → List Limb → Result Forest Refusal
loaded limits ls =
    if nat_lt limits.cells (own_cell_count ls) then Err Full
    else (if nat_lt limits.branches (length ls) then Err TooManyBranches
    else Ok (forest_of ls))
