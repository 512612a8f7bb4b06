-- What the program's faults print, after the word `towerbench` and a colon.
use Rattle.std.specs.Prelude.{ℕ, List, ◌++◌, codes}
use Rattle.schedule_trie.specs.Refusals.{refusal_display}
use Rattle.tower_file.specs.Faults.{fault_display}
use Rattle.conversation.specs.declared.fault.StreamFault.TheVariants as stream
use Rattle.conversation.specs.Faults.{stream_fault_display}
use Rattle.conversation.specs.SourceFaults.{source_fault_display}
use Rattle.towerbench.specs.declared.fault.Fault.{Fault}
use Rattle.towerbench.specs.declared.fault.Fault.TheVariants as fault
use Rattle.towerbench.specs.declared.fault.ProgramFault.{ProgramFault}
use Rattle.towerbench.specs.declared.fault.ProgramFault.TheVariants as program

-- what a fault of a run prints
abbrev pub run_fault_display : Fault → List ℕ
run_fault_display (fault.File e) = codes "file " ++ fault_display e
run_fault_display (fault.Refused r) = codes "open refused " ++ refusal_display r
run_fault_display fault.Read = stream_fault_display stream.Read
run_fault_display fault.Write = stream_fault_display stream.Write
run_fault_display fault.TooLong = stream_fault_display stream.TooLong
run_fault_display fault.Memory = stream_fault_display stream.Memory
run_fault_display fault.Save = codes "save failed"

-- what a fault of the program prints
abbrev pub program_fault_display : ProgramFault → List ℕ
program_fault_display program.Memory = stream_fault_display stream.Memory
program_fault_display program.Help = stream_fault_display stream.Write
program_fault_display (program.Source e) = source_fault_display e
program_fault_display (program.Run e) = run_fault_display e
