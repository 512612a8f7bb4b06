-- What the program's faults print, after the word `towerbench-answers` and a colon.
use Rattle.std.specs.Prelude.{ℕ, List}
use Rattle.conversation.specs.declared.fault.StreamFault.TheVariants as stream
use Rattle.conversation.specs.Faults.{stream_fault_display}
use Rattle.conversation.specs.SourceFaults.{source_fault_display}
use Rattle.answer_lines.specs.Faults.{answers_fault_display}
use Rattle.towerbench_answers.specs.declared.ending.AnswersProgramFault.{AnswersProgramFault}
use Rattle.towerbench_answers.specs.declared.ending.AnswersProgramFault.TheVariants as program

-- what a fault of the program prints
abbrev pub answers_program_display : AnswersProgramFault → List ℕ
answers_program_display (program.Source e) = source_fault_display e
answers_program_display program.Write = stream_fault_display stream.Write
answers_program_display (program.Answer e) = answers_fault_display e
