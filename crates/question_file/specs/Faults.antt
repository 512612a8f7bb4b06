-- The faults, and what they print.
use Rattle.std.specs.Prelude.{ℕ, List, ◌++◌, codes}
use Rattle.std.specs.Fmt.{decimal}
use Rattle.tower_file.specs.declared.fault.FaultKind.TheVariants as of_tower
use Rattle.tower_file.specs.Faults.{kind_display}
use Rattle.question_file.specs.declared.fault.QuestionFaultKind.{QuestionFaultKind}
use Rattle.question_file.specs.declared.fault.QuestionFaultKind.TheVariants.{BadLine, Shared, BadProcess, BadAfter, BadStop, BadMost}
use Rattle.question_file.specs.declared.fault.QuestionFault.{QuestionFault}

-- the fault that memory ran out
abbrev pub out_of_memory_kind : QuestionFaultKind
out_of_memory_kind = Shared of_tower.Memory

-- the fault of this kind on this line
abbrev pub question_fault : QuestionFaultKind → ℕ → QuestionFault
question_fault kind line = record { kind = kind; line = line }

-- What a kind of fault prints: its number, a space and its name. A kind that a tower file may have
-- too prints what it prints there.
abbrev pub question_kind_display : QuestionFaultKind → List ℕ
question_kind_display BadLine = codes "60 BadLine"
question_kind_display (Shared kind) = kind_display kind
question_kind_display BadProcess = codes "61 BadProcess"
question_kind_display BadAfter = codes "62 BadAfter"
question_kind_display BadStop = codes "63 BadStop"
question_kind_display BadMost = codes "64 BadMost"

-- what a file's fault prints: the word `line`, the line's number, a colon, and the kind
abbrev pub question_fault_display : QuestionFault → List ℕ
question_fault_display e = codes "line " ++ decimal e.line ++ codes ": " ++ question_kind_display e.kind
