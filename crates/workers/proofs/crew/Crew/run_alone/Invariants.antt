use Rattle.std.proofs.Common.{vec_capacity, vec_len}
use Rattle.std.specs.Vec.Iter.{into_iter_items, into_iter_len}
use Rattle.workers.proofs.ReservedRoom.{IsRoomReserved}
use Rattle.workers.proofs.OutcomesSoFar.{AreOutcomesSoFar}
use Rattle.workers.proofs.crew.Crew.run_alone.Given as goal

-- the outcomes so far, with one for each job that is left, are those of all jobs
abbrev pub invariant-loop-job : goal.invariant-loop-job
invariant-loop-job g l = record {
  begins : AreOutcomesSoFar g.J.Runnable.named g.J.Runnable.gives l.fn.jobs.items (into_iter_items l.job-iterator) l.all.items;
  room : IsRoomReserved (into_iter_items l.job-iterator) (into_iter_len l.job-iterator) (vec_len l.all) (vec_capacity l.all);
}
