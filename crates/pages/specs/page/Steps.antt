-- The page that shows all steps of a branch.
use Rattle.std.specs.Prelude.{ℕ, List, ◌++◌, codes, length}
use Rattle.std.specs.Fmt.{decimal}
use Rattle.frames.specs.declared.types.Step.{Step}
use Rattle.pages.specs.declared.page.steps.StepsPage.{StepsPage}
use Rattle.words.specs.Steps.{step_text}
use Rattle.pages.specs.Lines.{numbered_lines}
use Rattle.pages.specs.page.Head.{line_end, page_title}

-- the first line of the page: the session's number, the branch's name, and how many steps there are
abbrev pub steps_head : ℕ → List ℕ → ℕ → List ℕ
steps_head session branch len = page_title session (codes "steps") branch ++ decimal len ++ line_end

-- the line of a step: its index and its text
abbrev pub step_line : ℕ → Step → List ℕ
step_line i s = codes "  " ++ decimal i ++ codes " " ++ step_text s ++ line_end

-- a line for each step, numbered from 0
abbrev pub step_lines : List Step → List ℕ
step_lines steps = numbered_lines step_line 0 steps

-- the text of a page of a branch's steps, as the answer to the session with this number
abbrev pub steps_text : ℕ → StepsPage → List ℕ
steps_text session page = steps_head session page.branch (length page.steps) ++ step_lines page.steps
