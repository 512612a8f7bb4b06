use Rattle.std.proofs.Common.{◌≡◌, ◌++◌, [], take}
use Rattle.words.specs.Words.{word_with_numbers}
use Rattle.words.proofs.text.push_numbers.Given as goal

abbrev pub invariant-loop-number : goal.invariant-loop-number
invariant-loop-number l = l.out.items ≡ l.fn.out.items ++ word_with_numbers [] (take l.number-index l.numbers)
