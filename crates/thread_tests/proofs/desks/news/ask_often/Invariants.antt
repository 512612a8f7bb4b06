use Rattle.frames.specs.SafeBit.{safe_behaviour}
use Rattle.desk.specs.Chairs.{IsChairOf}
use Rattle.thread_tests.proofs.desks.news.ask_often.Given as goal

abbrev pub invariant-loop : goal.invariant-loop
invariant-loop l = IsChairOf (λ _. safe_behaviour) l.fn.desk l.chair
