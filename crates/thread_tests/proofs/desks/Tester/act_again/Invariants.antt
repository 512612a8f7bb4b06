use Rattle.frames.specs.SafeBit.{safe_behaviour}
use Rattle.desk.specs.Chairs.{IsChairOf}
use Rattle.thread_tests.proofs.desks.Tester.act_again.Given as goal

abbrev pub invariant-loop : goal.invariant-loop
invariant-loop g l = IsChairOf (λ _. safe_behaviour) l.fn.self.desk.now l.chair
