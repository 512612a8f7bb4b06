-- Faults of a script's streams.
use Rattle.std.specs.Prelude.{◌≡◌}
use Rattle.conversation.specs.declared.fault.StreamFault.{StreamFault}
use Rattle.conversation.specs.declared.fault.StreamFault.TheVariants as stream
use Rattle.conversation.specs.Streams.{Streams}
use Rattle.conversation.specs.Conversations.{Answering, EndsWithFault}
use Rattle.towerbench.specs.declared.fault.Fault.{Fault}
use Rattle.towerbench.specs.declared.fault.Fault.TheVariants as fault

-- the fault with which a run of the program ends after this fault of its script's streams
abbrev pub fault_of_stream : StreamFault → Fault
fault_of_stream stream.Read = fault.Read
fault_of_stream stream.Write = fault.Write
fault_of_stream stream.TooLong = fault.TooLong
fault_of_stream stream.Memory = fault.Memory

-- the fault is a fault of the script's streams
abbrev pub IsOfStreams : Fault → Type 0
IsOfStreams e = (s : StreamFault) × (e ≡ fault_of_stream s)

-- The fault is a fault of the script's streams, and what was read and written before it is as
-- `EndsWithFault` says for this fault. `answering` gives the answers to lines.
abbrev pub EndsWithStreamFault : Answering → Fault → Streams → Streams → Type 0
EndsWithStreamFault answering e before after = (s : StreamFault) × (e ≡ fault_of_stream s) × EndsWithFault answering s before after
