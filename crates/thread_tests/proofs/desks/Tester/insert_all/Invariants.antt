use Rattle.frames.specs.SafeBit.{safe_behaviour}
use Rattle.desk.specs.Chairs.{IsChairOf}
use Rattle.thread_tests.proofs.desks.Tester.insert_all.Given as goal

abbrev pub invariant-loop-place : goal.invariant-loop-place
invariant-loop-place g l = IsChairOf (λ _. safe_behaviour) l.fn.self.desk.now l.chair
