use Rattle.workers.proofs.ReservedRoom.{room_for_next, room_for_rest}
use Rattle.workers.proofs.OutcomesSoFar.{one_more_outcome, outcomes_of_all}
use Rattle.workers.proofs.crew.Crew.run_alone.Goals as goal

pub push_reserved-requires : goal.push_reserved-requires
push_reserved-requires g c = room_for_next _ _ c.in-Some.job _ _ _ c.in-Some.ensures.steps.0 c.loop-job.invariant.room

pub loop-job-preserved : goal.loop-job-preserved
loop-job-preserved g c = record {
  begins = one_more_outcome g.J.Runnable.named g.J.Runnable.gives _ _ _ c.in-Some.job _ _ c.run_job-done.result c.in-Some.ensures.steps.0 c.run_job-done.ensures c.push_reserved.ensures.items c.loop-job.invariant.begins;
  room = room_for_rest _ _ c.in-Some.job _ _ _ c.in-Some.ensures.steps.0 c.loop-job.invariant.room _ _ _ c.in-Some.ensures.steps.1 c.push_reserved.ensures.len c.push_reserved.ensures.capacity;
}

pub returns : goal.returns
returns g c = outcomes_of_all g.J.Runnable.named g.J.Runnable.gives _ _ _ _ c.loop-job.invariant.room.count c.in-None.ensures.steps.0 c.loop-job.invariant.begins
