use Rattle.std.proofs.Common.{sym, subst, rules, arith}
use Rattle.crossbeam_deque.specs.Handles.{view}
use Rattle.workers.specs.Outcomes.{IsDoneOf}
use Rattle.workers.specs.Slots.{HasRunItsJobs}
use Rattle.workers.proofs.DequeRule.{takes}
use Rattle.workers.proofs.FilledSlots.{has_run_after_job, ran_room}
use Rattle.workers.proofs.thief.steal_all.Goals as goal

pub steal_as-requires-clause-takes : goal.steal_as-requires-clause-takes
steal_as-requires-clause-takes g c = let one = c.loop.invariant.ran.part in takes _ _ (omega arith)

pub push_reserved-requires : goal.push_reserved-requires
push_reserved-requires g c =
    let fewer = ran_room (IsDoneOf g.J.Runnable.named g.J.Runnable.gives) (view c.args.thief.pass).jobs _ _ c.loop.ran.items c.in-Success.taken c.loop.invariant.ran c.in-Success.ensures.rule in
    let room = c.loop.invariant.room in
    omega arith

pub loop-preserved-in-Success : goal.loop-preserved-in-Success
loop-preserved-in-Success g c =
    let ends = IsDoneOf g.J.Runnable.named g.J.Runnable.gives in
    let jobs = (view c.args.thief.pass).jobs in
    let on = has_run_after_job ends jobs _ _ c.loop.ran.items c.in-Success.taken c.run_job-done.result c.loop.invariant.ran c.in-Success.ensures.rule c.run_job-done.ensures in
    record {
      pass = search rules;
      room = search rules;
      ran = subst (HasRunItsJobs ends jobs (view c.steal_as.new.pass)) (sym c.push_reserved.ensures.items) on;
    }
