-- The page that lists all branches.
use Rattle.std.specs.Prelude.{ℕ, List, ◌++◌, codes, length, map}
use Rattle.std.specs.Fmt.{decimal}
use Rattle.std.specs.List.{flat_map}
use Rattle.branch_terms.specs.Forest.{Forest, Branch}
use Rattle.pages.specs.declared.page.branches.BranchLength.{BranchLength}
use Rattle.pages.specs.declared.page.branches.BranchesPage.{BranchesPage}
use Rattle.pages.specs.page.Head.{line_end}

-- the name and the length of a branch
abbrev pub name_and_length : Branch → BranchLength
name_and_length b = record { name = b.name; len = length b.slots }

-- the page that lists a forest's branches, in the order they were made; it also shows `edits`, how
-- many edits were accepted, and how many cells were ever made
abbrev pub branches_page : ℕ → Forest → BranchesPage
branches_page edits f = record { edits = edits; made = f.made; branches = map name_and_length f.branches }

-- the first line of the page: the session's number, how many branches there are, how many edits
-- were accepted, and how many cells were ever made
abbrev pub branches_head : ℕ → ℕ → ℕ → ℕ → List ℕ
branches_head session count edits made =
    decimal session ++ codes ": branches " ++ decimal count ++ codes " edits " ++ decimal edits ++ codes " made " ++ decimal made ++ line_end

-- the line of a branch: its name and its length
abbrev pub branch_line : BranchLength → List ℕ
branch_line b = codes "  " ++ b.name ++ codes " " ++ decimal b.len ++ line_end

-- the text of a page that lists the branches, as the answer to the session with this number
abbrev pub branches_text : ℕ → BranchesPage → List ℕ
branches_text session page = branches_head session (length page.branches) page.edits page.made ++ flat_map branch_line page.branches
