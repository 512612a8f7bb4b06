use Rattle.std.proofs.Common.{◌≡◌, take}
use Rattle.std.specs.List.{list_all}
use Rattle.script.specs.Lines.{is_call_byte}
use Rattle.script.proofs.line.are_call_bytes.Given as goal

abbrev pub invariant-loop-byte : goal.invariant-loop-byte
invariant-loop-byte l = l.all ≡ list_all is_call_byte (take l.byte-index l.line)
