-- The refusals, by number and name.
use Rattle.std.specs.Prelude.{ℕ, List, ◌∷◌, ◌++◌, codes}
use Rattle.std.specs.Fmt.{decimal}
use Rattle.branch_terms.specs.declared.refusal.Refusal.{Refusal}
use Rattle.branch_terms.specs.declared.refusal.Refusal.TheVariants.{NoBranch, NameTaken, BadName, NoPlace, Full, LastBranch, TooManyBranches, BadStep, Occupied, NoBreak, NoSession, Newer, LogFull, BadLine, Memory}

-- a refusal's number, and its name, which is spelled like the variant
abbrev pub number_and_name : Refusal → ℕ × List ℕ
number_and_name NoBranch = (20, codes "NoBranch")
number_and_name NameTaken = (21, codes "NameTaken")
number_and_name BadName = (22, codes "BadName")
number_and_name NoPlace = (23, codes "NoPlace")
number_and_name Full = (24, codes "Full")
number_and_name LastBranch = (25, codes "LastBranch")
number_and_name TooManyBranches = (26, codes "TooManyBranches")
number_and_name BadStep = (30, codes "BadStep")
number_and_name Occupied = (31, codes "Occupied")
number_and_name NoBreak = (32, codes "NoBreak")
number_and_name NoSession = (33, codes "NoSession")
number_and_name (Newer edits) = (34, codes "Newer")
number_and_name LogFull = (35, codes "LogFull")
number_and_name BadLine = (36, codes "BadLine")
number_and_name Memory = (40, codes "Memory")

-- a refusal's number
abbrev pub refusal_number : Refusal → ℕ
refusal_number r = (number_and_name r).0

-- a refusal's name, which is spelled like the variant
abbrev pub refusal_name : Refusal → List ℕ
refusal_name r = (number_and_name r).1

-- what a refusal prints: its number, a space and its name
abbrev pub refusal_display : Refusal → List ℕ
refusal_display r = decimal (refusal_number r) ++ 32 ∷ refusal_name r
