-- What faults of reading a file print.
use Rattle.std.specs.Prelude.{ℕ, List, codes}
use Rattle.conversation.specs.declared.fault.StreamFault.TheVariants as stream
use Rattle.conversation.specs.Faults.{stream_fault_display}
use Rattle.conversation.specs.declared.source.SourceFault.{SourceFault}
use Rattle.conversation.specs.declared.source.SourceFault.TheVariants.{Unreadable, Memory, TooLong}

-- what a fault of reading a file prints
abbrev pub source_fault_display : SourceFault → List ℕ
source_fault_display Unreadable = codes "file unreadable"
source_fault_display Memory = stream_fault_display stream.Memory
source_fault_display TooLong = codes "file too long"
