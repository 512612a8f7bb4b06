-- The forest of branches, and the effect of each command on it.
use Rattle.std.specs.Prelude.{◌≡◌, ◌<◌, ◌⊎◌, IsOk, ℕ, zero, suc, ◌+◌, Bool, not, nat_eq, nat_le, nat_lt, List, [], ◌∷◌, ◌++◌, Option, Some, None, Result, Ok, Err, length, map, filter, take, position, IfSome, slice_index, slice_get, codes, if◌then◌else◌}
use Rattle.std.specs.List.{flat_map, remove, list_any}
use Rattle.std.specs.Option.{option_map}
use Rattle.std.specs.Cmp.Lexicographic.{pointwise}
use Rattle.schedule_steps.specs.declared.types.Step.{Step}
use Rattle.branch_terms.specs.declared.slot.Slot.{Slot}
use Rattle.branch_terms.specs.declared.limits.Limits.{Limits}
use Rattle.branch_terms.specs.declared.refusal.Refusal.{Refusal}
use Rattle.branch_terms.specs.declared.refusal.Refusal.TheVariants.{NoBranch, NameTaken, BadName, NoPlace, Full, LastBranch, TooManyBranches, Memory}
use Rattle.branch_terms.specs.Names.{is_well_formed}

-- a branch: its name, and its cells in order, each with its step
pub record Branch : Type 0 where
  pub name : List ℕ
  pub slots : List Slot

-- all branches in the order they were made, and the number of cells ever made
pub record Forest : Type 0 where
  pub branches : List Branch
  pub made : ℕ

-- the branch with this name and these cells
abbrev pub branch : List ℕ → List Slot → Branch
branch name slots = record { name = name; slots = slots }

-- the cell with this number and this step
abbrev pub slot : ℕ → Step → Slot
slot cell step = record { cell = cell; step = step }

-- a cell's number
abbrev pub cell_of : Slot → ℕ
cell_of s = s.cell

-- a cell's step
abbrev pub step_of : Slot → Step
step_of s = s.step

-- a branch's name
abbrev pub name_of : Branch → List ℕ
name_of b = b.name

-- cells with these steps, in order, numbered from n on
abbrev pub numbered : ℕ → List Step → List Slot
numbered n [] = []
numbered n (s ∷ ss) = slot n s ∷ numbered (suc n) ss

-- the forest of one branch, `main`, whose cells have these steps and are numbered from 0 on
abbrev pub opening_forest : List Step → Forest
opening_forest steps = record { branches = branch (codes "main") (numbered 0 steps) ∷ []; made = length steps }

-- the forest of one branch, which has this name, and whose cells have these steps
abbrev pub lone_branch : List ℕ → List Step → Forest
lone_branch name steps = record { branches = branch name (numbered 0 steps) ∷ []; made = length steps }

-- the forest of one branch, `main`, whose cells have these steps; Full if there are more steps than
-- the limit of cells
abbrev pub opened : Limits → List Step → Result Forest Refusal
opened limits steps = if nat_lt limits.cells (length steps) then Err Full else Ok (opening_forest steps)

-- the index of the named branch; None if there is no such branch
abbrev pub index_of : List Branch → List ℕ → Option ℕ
index_of branches name = position (pointwise nat_eq name) (map name_of branches)

-- the cells of the branch at an index; no cells if there is no such branch
abbrev pub slots_in : List Branch → ℕ → List Slot
slots_in [] i = []
slots_in (b ∷ bs) zero = b.slots
slots_in (b ∷ bs) (suc i) = slots_in bs i

-- the name of the branch at an index; None if there is no such branch
abbrev pub name_in : List Branch → ℕ → Option (List ℕ)
name_in branches i = slice_get (map name_of branches) i

-- no two branches have the same name: a search for a branch's name finds that branch
abbrev pub AreNamedApart : List Branch → Type 0
AreNamedApart branches = (i : ℕ) → IfSome (name_in branches i) (λ name. index_of branches name ≡ Some i)

-- two branches with a common cell have the same cells up to that cell, with the same steps; so no
-- cell is twice on a branch
abbrev pub ShareUpTo : List Branch → Type 0
ShareUpTo branches =
    (i j k l : ℕ) (s t : Slot) → slice_get (slots_in branches i) k ≡ Some s → slice_get (slots_in branches j) l ≡ Some t
    → s.cell ≡ t.cell → take (suc k) (slots_in branches i) ≡ take (suc l) (slots_in branches j)

-- what every command keeps true: branches have different names, branches with a common cell have
-- the same cells up to that cell, and each cell's number is below the number of cells ever made
pub record IsForest (f : Forest) : Type 0 where
  pub apart : AreNamedApart f.branches
  pub shared : ShareUpTo f.branches
  pub given : (i k : ℕ) → IfSome (slice_get (slots_in f.branches i) k) (λ s. s.cell < f.made)

-- the number of cells of the named branch; None if there is no such branch
abbrev pub len_of : Forest → List ℕ → Option ℕ
len_of f name = option_map (λ i. length (slots_in f.branches i)) (index_of f.branches name)

-- the number of the cell at an index of a list of cells
abbrev pub cell_in : List Slot → ℕ → ℕ
cell_in slots k = slice_index (map cell_of slots) k

-- the number of the cell at a place of the branch at the given index; None if no index is given, or
-- if there is no such cell
abbrev pub cell_by : Option ℕ → Forest → ℕ → Option ℕ
cell_by None f place = None
cell_by (Some i) f place = option_map cell_of (slice_get (slots_in f.branches i) place)

-- the number of the cell at a place of the named branch; None if there is no such branch or cell
abbrev pub cell_on_branch : Forest → List ℕ → ℕ → Option ℕ
cell_on_branch f name place = cell_by (index_of f.branches name) f place

-- whether a cell has the number x
abbrev pub is_cell : ℕ → Slot → Bool
is_cell x s = nat_eq s.cell x

-- the place of the cell with this number on the branch at the given index; None if no index is
-- given, or if the branch doesn't have the cell
abbrev pub place_by : Option ℕ → Forest → ℕ → Option ℕ
place_by None f cell = None
place_by (Some i) f cell = position (is_cell cell) (slots_in f.branches i)

-- the place of the cell with this number on the named branch; None if there is no such branch, or
-- if it doesn't have the cell
abbrev pub place_of : Forest → List ℕ → ℕ → Option ℕ
place_of f name cell = place_by (index_of f.branches name) f cell

-- the steps of the branch at the given index; None if no index is given
abbrev pub path_by : Option ℕ → Forest → Option (List Step)
path_by None f = None
path_by (Some i) f = Some (map step_of (slots_in f.branches i))

-- the steps of the named branch; None if there is no such branch
abbrev pub path_of : Forest → List ℕ → Option (List Step)
path_of f name = path_by (index_of f.branches name) f

-- a branch after the function g is applied to its list of cells
abbrev pub changed : (List Slot → List Slot) → Branch → Branch
changed g b = branch b.name (g b.slots)

-- the branches after the function g is applied to the list of cells of each
abbrev pub everywhere : (List Slot → List Slot) → List Branch → List Branch
everywhere g branches = map (changed g) branches

-- the branches after the function g is applied to the list of cells of the branch at an index alone
abbrev pub only_in : ℕ → (List Slot → List Slot) → List Branch → List Branch
only_in i g [] = []
only_in zero g (b ∷ bs) = changed g b ∷ bs
only_in (suc i) g (b ∷ bs) = b ∷ only_in i g bs

-- what replaces a cell s when `new` is put before cell x: `new` and s if s is cell x, else s
abbrev pub before_cell : ℕ → Slot → Slot → List Slot
before_cell x new s = if nat_eq s.cell x then new ∷ s ∷ [] else s ∷ []

-- these cells, with a new cell right before cell x; unchanged if cell x isn't one of them
abbrev pub put_before : ℕ → Slot → List Slot → List Slot
put_before x new slots = flat_map (before_cell x new) slots

-- these cells, and then a new cell
abbrev pub put_last : Slot → List Slot → List Slot
put_last new slots = slots ++ new ∷ []

-- these cells, and then several new cells
abbrev pub put_all : List Slot → List Slot → List Slot
put_all new slots = slots ++ new

-- whether a cell has another number than x
abbrev pub is_other : ℕ → Slot → Bool
is_other x s = not (nat_eq s.cell x)

-- these cells, without the cell with number x
abbrev pub without : ℕ → List Slot → List Slot
without x slots = filter (is_other x) slots

-- a cell, but with the given step if its number is x
abbrev pub with_step : ℕ → Step → Slot → Slot
with_step x step s = if nat_eq s.cell x then slot s.cell step else s

-- these cells, with the given step in the cell with number x
abbrev pub replaced : ℕ → Step → List Slot → List Slot
replaced x step slots = map (with_step x step) slots

-- the result of a command on the branch at the given index; NoBranch if no index is given
abbrev pub on_found : Option ℕ → (ℕ → Result Forest Refusal) → Result Forest Refusal
on_found None command = Err NoBranch
on_found (Some i) command = command i

-- the result of a command on the named branch; NoBranch if there is no such branch
abbrev pub on_branch : Forest → List ℕ → (ℕ → Result Forest Refusal) → Result Forest Refusal
on_branch f name command = on_found (index_of f.branches name) command

-- the forest with a new cell at a place of the branch at index i: before the cell there, in each
-- branch that has that cell; or, if the place is the branch's length, at the end of this branch
-- alone
abbrev pub inserted : Forest → ℕ → ℕ → Step → Forest
inserted f i place step =
    record {
      branches =
          if nat_eq place (length (slots_in f.branches i))
          then only_in i (put_last (slot f.made step)) f.branches
          else everywhere (put_before (cell_in (slots_in f.branches i) place) (slot f.made step)) f.branches;
      made = f.made + 1;
    }

-- insert a new cell at a place of the branch at index i; NoPlace if the place is greater than the
-- branch's length; Full if the number of cells made is at its limit
abbrev pub insert_at : Limits → Forest → ℕ → Step → ℕ → Result Forest Refusal
insert_at limits f place step i =
    if nat_lt (length (slots_in f.branches i)) place then Err NoPlace
    else (if nat_le limits.cells f.made then Err Full else Ok (inserted f i place step))

-- insert a new cell at a place of the named branch, or the first reason to refuse this: NoBranch,
-- NoPlace, Full
abbrev pub insert : Limits → Forest → List ℕ → ℕ → Step → Result Forest Refusal
insert limits f name place step = on_branch f name (insert_at limits f place step)

-- apply `change`, with the number of the cell at a place of the branch at index i, to the cells of
-- each branch; NoPlace if there is no cell at the place
abbrev pub at_cell : Forest → ℕ → (ℕ → List Slot → List Slot) → ℕ → Result Forest Refusal
at_cell f place change i =
    if nat_le (length (slots_in f.branches i)) place then Err NoPlace
    else Ok (record { branches = everywhere (change (cell_in (slots_in f.branches i) place)) f.branches; made = f.made })

-- remove the cell at a place of the named branch from each branch that has this cell; NoBranch or
-- NoPlace if there is no such branch or cell
abbrev pub remove_cell : Forest → List ℕ → ℕ → Result Forest Refusal
remove_cell f name place = on_branch f name (at_cell f place without)

-- these cells, with the given step in the cell with number x: as `replaced`, but with the step as
-- the first argument
abbrev pub replaced_by : Step → ℕ → List Slot → List Slot
replaced_by step x slots = replaced x step slots

-- replace the step of the cell at a place of the named branch, in each branch that has this cell;
-- NoBranch or NoPlace if there is no such branch or cell
abbrev pub replace_step : Forest → List ℕ → ℕ → Step → Result Forest Refusal
replace_step f name place step = on_branch f name (at_cell f place (replaced_by step))

-- add, at the end of the list of branches, a branch named `name` that shares the first `place`
-- cells of the branch at index i; or the first reason to refuse this: NameTaken, BadName, NoPlace,
-- TooManyBranches
abbrev pub fork_at : Limits → Forest → ℕ → List ℕ → ℕ → Result Forest Refusal
fork_at limits f place name i =
    if list_any (pointwise nat_eq name) (map name_of f.branches) then Err NameTaken
    else (if not (is_well_formed name) then Err BadName
    else (if nat_lt (length (slots_in f.branches i)) place then Err NoPlace
    else (if nat_le limits.branches (length f.branches) then Err TooManyBranches
    else Ok (record { branches = f.branches ++ branch name (take place (slots_in f.branches i)) ∷ []; made = f.made }))))

-- add, at the end of the list of branches, a branch named `new` that shares the first `place` cells
-- of the branch named `name`; or the first reason to refuse this: NoBranch, or a reason of
-- `fork_at`
abbrev pub fork : Limits → Forest → List ℕ → ℕ → List ℕ → Result Forest Refusal
fork limits f name place new = on_branch f name (fork_at limits f place new)

-- new cells with the steps of these cells, numbered from n on
abbrev pub renumbered : ℕ → List Slot → List Slot
renumbered n slots = numbered n (map step_of slots)

-- replace each cell of the branch at index i by a new one with the same step, in this branch alone;
-- Full if the number of cells made would exceed its limit
abbrev pub detach_at : Limits → Forest → ℕ → Result Forest Refusal
detach_at limits f i =
    if nat_lt limits.cells (f.made + length (slots_in f.branches i)) then Err Full
    else Ok (record { branches = only_in i (renumbered f.made) f.branches; made = f.made + length (slots_in f.branches i) })

-- replace each cell of the named branch by a new one with the same step, in this branch alone;
-- NoBranch if there is no such branch; Full if the number of cells made would exceed its limit
abbrev pub detach : Limits → Forest → List ℕ → Result Forest Refusal
detach limits f name = on_branch f name (detach_at limits f)

-- remove the branch at index i from the list; LastBranch if it is the only one
abbrev pub drop_at : Forest → ℕ → Result Forest Refusal
drop_at f i =
    if nat_le (length f.branches) 1 then Err LastBranch
    else Ok (record { branches = remove f.branches i; made = f.made })

-- remove the named branch from the list; NoBranch if there is no such branch; LastBranch if it is
-- the only one
abbrev pub drop_branch : Forest → List ℕ → Result Forest Refusal
drop_branch f name = on_branch f name (drop_at f)

-- `e` is why a call that allocates is refused, given `model`, the call's result if memory suffices:
-- the error of `model`, which is the first reason that holds; or, if there is no error, Memory
abbrev pub IsRefused : Result Forest Refusal → Refusal → Type 0
IsRefused model e = (model ≡ Err e) ⊎ ((e ≡ Memory) × IsOk model)
