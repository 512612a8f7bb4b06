use Rattle.std.proofs.Common.{◌≡◌, ◌++◌, take}
use Rattle.std.specs.List.{flat_map}
use Rattle.pages.specs.page.Memory.{bit_name}
use Rattle.pages.proofs.page.memory.push_bits_line.Given as goal

abbrev pub invariant-loop-bit : goal.invariant-loop-bit
invariant-loop-bit l = l.out.items ≡ l.initial.out.items ++ flat_map bit_name (take l.bit-index l.bits)
