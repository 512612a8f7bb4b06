-- What faults of streams print.
use Rattle.std.specs.Prelude.{ℕ, List, codes}
use Rattle.conversation.specs.declared.fault.StreamFault.{StreamFault}
use Rattle.conversation.specs.declared.fault.StreamFault.TheVariants.{Read, Write, TooLong, Memory}

-- what a fault of streams prints
abbrev pub stream_fault_display : StreamFault → List ℕ
stream_fault_display Read = codes "read failed"
stream_fault_display Write = codes "write failed"
stream_fault_display TooLong = codes "script too long"
stream_fault_display Memory = codes "memory"
