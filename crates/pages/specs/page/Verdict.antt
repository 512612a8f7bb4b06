-- The page of verdicts on reads.
use Rattle.std.specs.Prelude.{ℕ, List, ◌++◌, Option, Some, None, codes}
use Rattle.std.specs.Fmt.{decimal}
use Rattle.frames.specs.declared.verdict.ReadVerdict.{ReadVerdict}
use Rattle.frames.specs.declared.types.Event.{Event}
use Rattle.pages.specs.declared.page.head.Head.{Head}
use Rattle.pages.specs.declared.page.verdict.VerdictPage.{VerdictPage}
use Rattle.pages.specs.Lines.{lines_or_none}
use Rattle.pages.specs.page.Head.{line_end, head_line}
use Rattle.pages.specs.page.Names.{verdict_name}
use Rattle.frames.specs.correctness.Verdicts.{verdicts}

-- the verdicts on the returned reads among these events; `None` if no initial value is given
abbrev pub page_verdicts : Option ℕ → List (ℕ × Event) → Option (List ReadVerdict)
page_verdicts None events = None
page_verdicts (Some value) events = Some (verdicts value events)

-- the page that shows the verdicts on the returned reads among these events; the page's `reads` are
-- `None` if no initial value is given
abbrev pub verdict_page : Head → Option ℕ → List (ℕ × Event) → VerdictPage
verdict_page head value events = record { head = head; reads = page_verdicts value events }

-- the line of a read: the index of the step in which it returned, its process, its value and its
-- verdict
abbrev pub verdict_line : ReadVerdict → List ℕ
verdict_line r =
    codes "  " ++ decimal r.step ++ codes " p" ++ decimal r.process ++ codes " " ++ decimal r.value ++ codes " " ++ verdict_name r.verdict ++ line_end

-- a line for each read, or the line `none` if no read has returned
abbrev pub verdict_lines : List ReadVerdict → List ℕ
verdict_lines reads = lines_or_none (λ i read. verdict_line read) reads

-- the lines after the first line of a page of verdicts: a line for each read, or `none` if no read
-- has returned; `undefined for matrix` if verdicts aren't defined
abbrev pub reads_text : Option (List ReadVerdict) → List ℕ
reads_text None = codes "  undefined for matrix" ++ line_end
reads_text (Some reads) = verdict_lines reads

-- the text of a page of verdicts, as the answer to the session with this number
abbrev pub verdict_text : ℕ → VerdictPage → List ℕ
verdict_text session page = head_line session (codes "verdict") page.head ++ reads_text page.reads
