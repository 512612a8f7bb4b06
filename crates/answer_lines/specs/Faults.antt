-- The faults with which the question of a file isn't answered.
use Rattle.std.specs.Prelude.{◌≡◌, ◌≢◌, ℕ, List, ◌++◌, Err, IsOk, IfOk, codes}
use Rattle.question_file.specs.Asked.{most_states}
use Rattle.question_file.specs.Faults.{out_of_memory_kind, question_fault_display}
use Rattle.question_file.specs.Reading.{question_reading}
use Rattle.answer_lines.specs.declared.fault.AnswersFault.{AnswersFault}
use Rattle.answer_lines.specs.declared.fault.AnswersFault.TheVariants.{File, Cycle, TooMany, Memory}
use Rattle.answer_lines.specs.Advice.{too_many, too_many_display}

-- The fault suits these bytes. A fault `File` is the first in the bytes, unless memory ran out; the
-- others are faults of bytes that spell a question; and `TooMany` has the most states that the file
-- allows, and which processes to leave out or to shorten.
abbrev pub IsFaultOf : List ℕ → AnswersFault → Type 0
IsFaultOf bytes (File e) = e.kind ≢ out_of_memory_kind → question_reading bytes ≡ Err e
IsFaultOf bytes Cycle = IsOk (question_reading bytes)
IsFaultOf bytes (TooMany t) = IsOk (question_reading bytes) × IfOk (question_reading bytes) (λ a. t ≡ too_many (most_states a) a.operations)
IsFaultOf bytes Memory = IsOk (question_reading bytes)

-- what a fault prints
abbrev pub answers_fault_display : AnswersFault → List ℕ
answers_fault_display (File e) = codes "file " ++ question_fault_display e
answers_fault_display Cycle = codes "operations wait for each other in a cycle"
answers_fault_display (TooMany t) = too_many_display t
answers_fault_display Memory = codes "memory"
