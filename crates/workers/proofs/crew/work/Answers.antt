use Rattle.std.proofs.Common.{◌∙◌, ap, sym, subst, arith, rules}
use Rattle.crossbeam_deque.specs.Handles.{worker_view}
use Rattle.workers.specs.Hands.{HasAllJobs}
use Rattle.workers.specs.Outcomes.{IsDoneOf}
use Rattle.workers.specs.Slots.{IsAtWork}
use Rattle.workers.proofs.DequeRule.{takes, finds}
use Rattle.workers.proofs.FilledSlots.{at_work_after_job, taken_within_slots, fewer_left}
use Rattle.workers.proofs.crew.work.Goals as goal

pub pop_as-requires-clause-fifo : goal.pop_as-requires-clause-fifo
pop_as-requires-clause-fifo g c = λ _. takes _ _ c.loop-taken.invariant.ready.part

pub pop_as-requires-clause-lifo : goal.pop_as-requires-clause-lifo
pop_as-requires-clause-lifo g c = λ some_flavor. absurd (let none = c.loop-taken.invariant.fifo in omega arith)

pub pop_as-requires-clause-empty : goal.pop_as-requires-clause-empty
pop_as-requires-clause-empty g c = finds _ _

pub put-requires : goal.put-requires
put-requires g c = taken_within_slots (IsDoneOf g.J.Runnable.named g.J.Runnable.gives) _ _ _ c.loop-taken.slots.items c.in-Some.taken c.loop-taken.invariant.ready c.in-Some.ensures.rule

pub loop-taken-preserved : goal.loop-taken-preserved
loop-taken-preserved g c =
    let ends = IsDoneOf g.J.Runnable.named g.J.Runnable.gives in
    let jobs = (worker_view c.args.workplace.0).jobs in
    let took = c.in-Some.ensures.rule in
    let on = at_work_after_job ends jobs _ (worker_view c.pop_as.new.self) c.loop-taken.slots.items c.in-Some.taken c.run_job-done.result c.loop-taken.invariant.ready took c.run_job-done.ensures in
    let kept = c.in-Some.ensures.same.0 in
    let was = c.loop-taken.invariant.same in
    let parts = ap (λ v. v.parts) took.hand_is in
    record {
      same = (kept.0 ∙ was.0, kept.1 ∙ was.1, parts ∙ was.2);
      fifo = search rules;
      ready = subst (IsAtWork ends jobs (worker_view c.pop_as.new.self)) (sym c.put.ensures) on;
    }

pub loop-taken-smaller : goal.loop-taken-smaller
loop-taken-smaller g c = fewer_left _ _ c.in-Some.taken c.in-Some.ensures.rule

pub returns-clause-all : goal.returns-clause-all
returns-clause-all g c = subst HasAllJobs (sym c.in_default.ensures.rule.0) c.in_default.ensures.rule.1
