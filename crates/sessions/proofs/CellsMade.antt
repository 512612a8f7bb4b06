-- An accepted edit keeps the number of cells ever made within the limit of cells.
use Rattle.std.proofs.Common.{◌≡◌, ◌+◌, ◌<◌, ◌≤◌, not, nat_eq, nat_lt, nat_le, length, map, Ok, IfOk, arith}
use Rattle.std.specs.List.{list_any}
use Rattle.std.specs.Cmp.Lexicographic.{pointwise}
use Rattle.std.proofs.lemmas.Bool.{leb-false, ltb-false}
use Rattle.schedule_trie.specs.declared.limits.Limits.{Limits}
use Rattle.schedule_trie.specs.declared.refusal.Refusal.TheVariants.{NoPlace, Full, NameTaken, BadName, TooManyBranches, LastBranch}
use Rattle.schedule_trie.specs.Names.{is_well_formed}
use Rattle.schedule_trie.specs.Edits.{Edit, Insert, Remove, Replace, Fork, Detach, Drop, edited}
use Rattle.schedule_trie.specs.Forest as forests
use Rattle.schedule_trie.specs.Forest.{Forest, index_of, slots_in, name_of, without}
use Rattle.sessions.proofs.EditCases.{tested_ok, found_ok, from_ok}

module _ (limits : Limits) (f : Forest) (few : f.made ≤ limits.cells) where
  abbrev HasFewCells : Forest → Type 0
  HasFewCells g = g.made ≤ limits.cells

  few_cells_after : (edit : Edit) → IfOk (edited limits f edit) HasFewCells
  few_cells_after (Insert name place step) =
      found_ok HasFewCells (index_of f.branches name) (forests.insert_at limits f place step)
      (λ i found. tested_ok HasFewCells (nat_lt (length (slots_in f.branches i)) place) NoPlace _
      (λ fits. tested_ok HasFewCells (nat_le limits.cells f.made) Full (Ok (forests.inserted f i place step))
      (λ room. let more : f.made < limits.cells = leb-false limits.cells f.made room in omega arith)))
  few_cells_after (Remove name place) =
      found_ok HasFewCells (index_of f.branches name) (forests.at_cell f place without) (λ i found. tested_ok HasFewCells (nat_le (length (slots_in f.branches i)) place) NoPlace _ (λ fits. few))
  few_cells_after (Replace name place step) =
      found_ok HasFewCells (index_of f.branches name) (forests.at_cell f place (forests.replaced_by step))
      (λ i found. tested_ok HasFewCells (nat_le (length (slots_in f.branches i)) place) NoPlace _ (λ fits. few))
  few_cells_after (Fork name place new) =
      found_ok HasFewCells (index_of f.branches name) (forests.fork_at limits f place new)
      (λ i found. tested_ok HasFewCells (list_any (pointwise nat_eq new) (map name_of f.branches)) NameTaken _
      (λ other. tested_ok HasFewCells (not (is_well_formed new)) BadName _
      (λ formed. tested_ok HasFewCells (nat_lt (length (slots_in f.branches i)) place) NoPlace _
      (λ fits. tested_ok HasFewCells (nat_le limits.branches (length f.branches)) TooManyBranches _ (λ room. few)))))
  few_cells_after (Detach name) =
      found_ok HasFewCells (index_of f.branches name) (forests.detach_at limits f)
      (λ i found. tested_ok HasFewCells (nat_lt limits.cells (f.made + length (slots_in f.branches i))) Full _
      (λ room. ltb-false limits.cells (f.made + length (slots_in f.branches i)) room))
  few_cells_after (Drop name) =
      found_ok HasFewCells (index_of f.branches name) (forests.drop_at f) (λ i found. tested_ok HasFewCells (nat_le (length f.branches) 1) LastBranch _ (λ more. few))

  pub made_within : (g : Forest) (edit : Edit) → edited limits f edit ≡ Ok g → g.made ≤ limits.cells
  made_within g edit e = from_ok HasFewCells (edited limits f edit) g e (few_cells_after edit)
