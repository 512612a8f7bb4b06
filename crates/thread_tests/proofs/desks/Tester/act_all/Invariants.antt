use Rattle.frames.specs.SafeBit.{safe_behaviour}
use Rattle.desk.specs.Chairs.{IsChairOf}
use Rattle.thread_tests.proofs.desks.Tester.act_all.Given as goal

abbrev pub invariant-loop-command : goal.invariant-loop-command
invariant-loop-command g l = IsChairOf (λ _. safe_behaviour) l.fn.self.desk.now l.chair
