use Rattle.std.proofs.Common.{◌≡◌, [], length}
use Rattle.question_file.specs.Lines.{operations_from}
use Rattle.question_file.proofs.line.operations.Given as goal

abbrev pub invariant-words : goal.invariant-words
invariant-words l = operations_from l.list.items l.words ≡ operations_from [] l.fn.words

abbrev pub decreases-words : goal.decreases-words
decreases-words l = length l.words
