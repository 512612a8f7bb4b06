use Rattle.std.proofs.Common.{◌≡◌}
use Rattle.question_file.specs.Asked.{lists_of, no_lists}
use Rattle.question_file.proofs.beginning.no_operations.Given as goal

-- each process before this one has no operations
abbrev pub invariant-loop : goal.invariant-loop
invariant-loop l = lists_of l.all.items ≡ no_lists l.counter
