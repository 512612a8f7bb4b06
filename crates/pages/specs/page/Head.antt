-- The first line of a page.
use Rattle.std.specs.Prelude.{ℕ, List, [], ◌∷◌, ◌++◌, codes}
use Rattle.std.specs.Fmt.{decimal}
use Rattle.pages.specs.declared.page.head.Head.{Head}

-- what ends a line: a newline character
abbrev pub line_end : List ℕ
line_end = 10 ∷ []

-- the beginning of the first line of a page that shows one branch: the session's number, the kind
-- of page and the branch's name
abbrev pub page_title : ℕ → List ℕ → List ℕ → List ℕ
page_title session kind branch = decimal session ++ codes ": " ++ kind ++ codes " " ++ branch ++ codes " "

-- the first line of a page that shows a place: the session's number, the kind of page, the branch's
-- name, the place, and the branch's length
abbrev pub head_line : ℕ → List ℕ → Head → List ℕ
head_line session kind head = page_title session kind head.branch ++ decimal head.place ++ codes " of " ++ decimal head.len ++ line_end
