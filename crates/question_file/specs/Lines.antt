-- What a line is read as.
use Rattle.std.specs.Prelude.{◌≡◌, ◌≢◌, ⊤, ℕ, ◌==◌, ◌&&◌, not, nat_le, nat_lt, Bool, true, false, List, [], ◌∷◌, ◌++◌, Option, Some, None, Result, Ok, Err, OnOk, IfErr, length, codes, slice_get, slice_set, is_none, if◌then◌else◌}
use Rattle.std.specs.Option.{option_map, ok_or}
use Rattle.std.specs.List.{list_all, list_any}
use Rattle.std.specs.Str.{bytes_eq}
use Rattle.frames.specs.declared.types.Op.{Op}
use Rattle.frames.specs.declared.types.Op.TheVariants.{Write, Read}
use Rattle.answers.specs.declared.question.After.{After}
use Rattle.tower_file.specs.declared.tower.TowerSpec.{TowerSpec}
use Rattle.tower_file.specs.declared.fault.FileFault.{FileFault}
use Rattle.tower_file.specs.Files.{File}
use Rattle.tower_file.specs.Reading.{file_reading}
use Rattle.tower_file.specs.Towers.{suits}
use Rattle.words.specs.Words.{words, next, after_next}
use Rattle.words.specs.Options.{◌>>=◌}
use Rattle.words.specs.Numbers.{number, one_number, four_numbers}
use Rattle.question_file.specs.declared.fault.QuestionFaultKind.{QuestionFaultKind}
use Rattle.question_file.specs.declared.fault.QuestionFaultKind.TheVariants.{BadLine, Shared, BadProcess, BadAfter, BadStop, BadMost}
use Rattle.question_file.specs.Faults.{out_of_memory_kind}
use Rattle.question_file.specs.Asked.{Asked}

-- the operation at the front of these words: `r`, or `w` and a value; `None` if there is none
abbrev pub next_operation : List (List ℕ) → Option Op
next_operation ws =
    if bytes_eq (next ws) (codes "r") then Some Read
    else (if bytes_eq (next ws) (codes "w") then option_map (λ v. Write v) (number (next (after_next ws)))
    else None)

-- the words after the operation at the front of these words
abbrev pub after_operation : List (List ℕ) → List (List ℕ)
after_operation ws = if bytes_eq (next ws) (codes "r") then after_next ws else after_next (after_next ws)

-- the operations `front` and then those that the words spell; `None` if the words spell none
unfoldable pub operations_from : List Op → List (List ℕ) → Option (List Op)
operations_from front [] = Some front
operations_from front (w ∷ []) = if bytes_eq w (codes "r") then Some (front ++ Read ∷ []) else None
operations_from front (w ∷ v ∷ ws) =
    if bytes_eq w (codes "r") then operations_from (front ++ Read ∷ []) (v ∷ ws)
    else (if bytes_eq w (codes "w") then (number v >>= λ n. operations_from (front ++ Write n ∷ []) ws)
    else None)

-- whether there is a list, and it is empty
abbrev pub is_empty_list : Option (List Op) → Bool
is_empty_list None = false
is_empty_list (Some list) = length list == 0

-- whether process p can get these operations: it exists and has none yet, there is at least one,
-- and each fits it
abbrev pub may_make : Asked → ℕ → List Op → Bool
may_make a p list = (is_empty_list (slice_get a.operations p) && not (length list == 0)) && list_all (suits a.tower p) list

-- what is asked with these operations of process p in place of its own
abbrev pub with_list : Asked → ℕ → List Op → Asked
with_list a p list = record a { operations = slice_set a.operations p list }

-- what is asked with the line `process` that has these words; `None` if the line is faulty
abbrev pub with_operations : Asked → List (List ℕ) → Option Asked
with_operations a ws = do
  p ← number (next ws)
  list ← operations_from [] (after_next ws)
  if may_make a p list then Some (with_list a p list) else None

-- the number of operations in a list, if there is a list
abbrev pub count_in : Option (List Op) → ℕ
count_in None = 0
count_in (Some list) = length list

-- whether process p has an operation i
abbrev pub has_operation : Asked → ℕ → ℕ → Bool
has_operation a p i = nat_lt i (count_in (slice_get a.operations p))

-- operation i of process p has to follow operation j of process q
abbrev pub after_of : ℕ → ℕ → ℕ → ℕ → After
after_of p i q j = record { later = record { process = p; index = i }; earlier = record { process = q; index = j } }

-- what is asked with the line `after` that has these words; `None` if the line is faulty
abbrev pub with_after : Asked → List (List ℕ) → Option Asked
with_after a ws = do
  n ← four_numbers ws
  if has_operation a n.0 n.1 && has_operation a n.2 n.3 then Some (record a { after = a.after ++ after_of n.0 n.1 n.2 n.3 ∷ [] }) else None

-- what is asked with the line `stop` that has these words; `None` if the line is faulty
abbrev pub with_stop : Asked → List (List ℕ) → Option Asked
with_stop a ws = do
  p ← one_number ws
  if nat_lt p (length a.operations) && not (list_any (λ r. p == r) a.may_stop) then Some (record a { may_stop = a.may_stop ++ p ∷ [] }) else None

-- what is asked with the line `most` that has these words; `None` if the line is faulty
abbrev pub with_most : Asked → List (List ℕ) → Option Asked
with_most a ws = do
  n ← one_number ws
  if (is_none a.most && nat_le 1 n) && nat_le n 16777216 then Some (record a { most = Some n }) else None

-- The result of a call that takes a line; `read` is what is then asked, or `None` if the line is
-- faulty. If the call succeeds, what is asked is `new`, and that is `read`; if it fails, memory ran
-- out, or the line is faulty and the fault is `bad`.
pub record Takes (bad : QuestionFaultKind) (read : Option Asked) (new : Asked) (result : Result ⊤ QuestionFaultKind) : Type 0 where
  pub taken : OnOk result (read ≡ Some new)
  pub kind : IfErr result (λ k. k ≢ out_of_memory_kind → k ≡ bad)
  pub fault : IfErr result (λ k. k ≢ out_of_memory_kind → read ≡ None)

-- what is asked with one more line, which isn't a tower's; or the line's fault
abbrev pub with_entry : Asked → List (List ℕ) → Result Asked QuestionFaultKind
with_entry a ws =
    if bytes_eq (next ws) (codes "process") then ok_or (with_operations a (after_next ws)) BadProcess
    else (if bytes_eq (next ws) (codes "after") then ok_or (with_after a (after_next ws)) BadAfter
    else (if bytes_eq (next ws) (codes "stop") then ok_or (with_stop a (after_next ws)) BadStop
    else (if bytes_eq (next ws) (codes "most") then ok_or (with_most a (after_next ws)) BadMost
    else Err BadLine)))

-- the tower file that has this line as its tower and no steps
abbrev pub tower_file_of : List ℕ → List ℕ
tower_file_of line = codes "tower 1" ++ 10 ∷ line ++ 10 ∷ []

-- the tower that a tower file has, or the kind of the file's fault
abbrev pub tower_of_file : Result File FileFault → Result TowerSpec QuestionFaultKind
tower_of_file (Ok f) = Ok f.tower
tower_of_file (Err e) = Err (Shared e.kind)

-- the tower of a line, or the line's fault: those of the tower file that has the line as its
-- tower's
abbrev pub tower_in : List ℕ → Result TowerSpec QuestionFaultKind
tower_in line = tower_of_file (file_reading (tower_file_of line))
