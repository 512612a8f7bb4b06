use Rattle.turn.specs.Chairs.{IsOf}
use Rattle.thread_tests.proofs.turns.write_all.Given as goal

abbrev pub invariant-loop-value : goal.invariant-loop-value
invariant-loop-value g l = IsOf l.fn.turn l.chair
