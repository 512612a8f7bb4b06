-- What bytes are read as: the contents of a question file, or the first fault in them.
use Rattle.std.specs.Prelude.{◌≡◌, ℕ, ◌+◌, ◌==◌, ◌||◌, not, Bool, true, false, List, [], ◌∷◌, Option, Some, None, Result, Ok, Err, length, if◌then◌else◌}
use Rattle.std.specs.List.{list_all}
use Rattle.tower_file.specs.declared.tower.TowerSpec.{TowerSpec}
use Rattle.tower_file.specs.declared.fault.FaultKind.TheVariants.{NotAscii, UnknownTower}
use Rattle.tower_file.specs.Reading.{is_file_byte}
use Rattle.words.specs.Words.{lines, words}
use Rattle.question_file.specs.declared.fault.QuestionFaultKind.{QuestionFaultKind}
use Rattle.question_file.specs.declared.fault.QuestionFaultKind.TheVariants.{BadLine, Shared}
use Rattle.question_file.specs.declared.fault.QuestionFault.{QuestionFault}
use Rattle.question_file.specs.Faults.{question_fault}
use Rattle.question_file.specs.Asked.{Asked, asked_of}
use Rattle.question_file.specs.Lines.{tower_in, with_entry}

-- whether a line says nothing: it is empty or begins with `#`
abbrev pub is_comment : List ℕ → Bool
is_comment [] = true
is_comment (b ∷ bs) = b == 35

-- what the lines so far say, the last of which is the tower's; or that line's fault
abbrev pub begun_with : Result TowerSpec QuestionFaultKind → Result (Option Asked) QuestionFaultKind
begun_with (Ok t) = Ok (Some (asked_of t))
begun_with (Err k) = Err k

-- what is asked, as what the lines so far say; or the fault as it is
abbrev pub as_some : Result Asked QuestionFaultKind → Result (Option Asked) QuestionFaultKind
as_some (Ok a) = Ok (Some a)
as_some (Err k) = Err k

-- What the lines so far say, with one more that isn't a comment. At first no tower is given.
abbrev pub with_content_line : Option Asked → List ℕ → Result (Option Asked) QuestionFaultKind
with_content_line None line = begun_with (tower_in line)
with_content_line (Some a) line = as_some (with_entry a (words line))

-- what the lines so far say, with one more; or that line's fault
abbrev pub with_line : Option Asked → List ℕ → Result (Option Asked) QuestionFaultKind
with_line read line =
    if not (list_all is_file_byte line) then Err (Shared NotAscii)
    else (if is_comment line then Ok read
    else with_content_line read line)

-- what a file says whose lines have ended, line n being the text after its last line end; or the
-- fault that no tower is given
abbrev pub whole_file : ℕ → Option Asked → Result Asked QuestionFault
whole_file n None = Err (question_fault (Shared UnknownTower) n)
whole_file n (Some a) = Ok a

-- what a file says that ends with the text `rest` of line n, which should be empty, or its fault
abbrev pub last_line : ℕ → Option Asked → List ℕ → Result Asked QuestionFault
last_line n read rest = if length rest == 0 then whole_file n read else Err (question_fault BadLine n)

-- the fault of line n; or, without one, what f makes of what the lines up to line n say
abbrev pub read_on : ℕ → Result (Option Asked) QuestionFaultKind → (Option Asked → Result Asked QuestionFault) → Result Asked QuestionFault
read_on n (Err k) f = Err (question_fault k n)
read_on n (Ok read) f = f read

-- what a file says of which these lines are left, line n being the first of them, given what the
-- lines before say; or the first fault
unfoldable pub read_from : ℕ → Option Asked → List (List ℕ) → Result Asked QuestionFault
read_from n read [] = whole_file n read
read_from n read (rest ∷ []) = last_line n read rest
read_from n read (line ∷ other ∷ others) = read_on n (with_line read line) (λ more. read_from (n + 1) more (other ∷ others))

-- what a file's bytes are read as: what they say, or their first fault
abbrev pub question_reading : List ℕ → Result Asked QuestionFault
question_reading bytes = read_from 1 None (lines bytes)
