-- Which processes to leave out or to shorten if more states are reachable than may be searched.
use Rattle.std.specs.Prelude.{ℕ, ◌+◌, ◌++◌, ◌==◌, nat_lt, List, [], ◌∷◌, length, if◌then◌else◌, codes}
use Rattle.std.specs.Fmt.{decimal}
use Rattle.frames.specs.declared.types.Op.{Op}
use Rattle.answer_lines.specs.declared.fault.TooMany.{TooMany}

-- the last process that has operations: `last` if none from process p on has any
abbrev pub last_busy : ℕ → ℕ → List (List Op) → ℕ
last_busy last p [] = last
last_busy last p (list ∷ lists) = last_busy (if length list == 0 then last else p) (p + 1) lists

-- the first process that has the most operations: `longest`, which has `most`, if none from process
-- p on has more
abbrev pub longest_from : ℕ → ℕ → ℕ → List (List Op) → ℕ
longest_from longest most p [] = longest
longest_from longest most p (list ∷ lists) =
    if nat_lt most (length list) then longest_from p (length list) (p + 1) lists else longest_from longest most (p + 1) lists

-- the fault that more than `most` states are reachable
abbrev pub too_many : ℕ → List (List Op) → TooMany
too_many most operations = record { most = most; last = last_busy 0 0 operations; longest = longest_from 0 0 0 operations }

-- what that fault prints: the limit, the last process and the longest one
abbrev pub too_many_display : TooMany → List ℕ
too_many_display e = codes "more than " ++ decimal e.most ++ codes " states: leave out process " ++ decimal e.last ++ codes ", shorten process " ++ decimal e.longest ++ codes ", or raise most"
