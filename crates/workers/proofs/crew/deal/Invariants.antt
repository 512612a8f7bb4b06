use Rattle.std.proofs.Common.{◌≡◌, ◌≤◌, ◌+◌, ◌++◌, [], length, replicate, vec_capacity, vec_len}
use Rattle.std.specs.Prelude.{None}
use Rattle.std.specs.Vec.Iter.{into_iter_items, into_iter_len}
use Rattle.crossbeam_deque.specs.Handles.{worker_capacity, worker_flavor, worker_index, worker_view}
use Rattle.workers.specs.Hands.{hand}
use Rattle.workers.proofs.crew.deal.Given as goal

-- the jobs that were dealt, with those that are left, are all jobs
abbrev pub invariant-loop-job : goal.invariant-loop-job
invariant-loop-job g l = record {
  fifo : worker_flavor l.owner ≡ 0;
  dealt : worker_view l.owner ≡ hand 8 (worker_view l.owner).jobs [];
  all : (worker_view l.owner).jobs ++ into_iter_items l.job-iterator ≡ l.fn.jobs.items;
  next : vec_len l.slots ≡ length (worker_view l.owner).jobs;
  index : worker_index l.owner ≡ vec_len l.slots;
  slots : l.slots.items ≡ replicate (vec_len l.slots) None;
  len : into_iter_len l.job-iterator ≡ length (into_iter_items l.job-iterator);
  room : vec_len l.slots + into_iter_len l.job-iterator ≤ vec_capacity l.slots;
  free : vec_len l.slots + into_iter_len l.job-iterator ≤ worker_capacity l.owner;
}
