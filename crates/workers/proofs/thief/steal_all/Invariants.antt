use Rattle.std.proofs.Common.{◌≤◌, length, vec_capacity}
use Rattle.crossbeam_deque.specs.Handles.{view, IsPassOf, stealer_deque}
use Rattle.workers.specs.Outcomes.{IsDoneOf}
use Rattle.workers.specs.Slots.{HasRunItsJobs}
use Rattle.workers.proofs.thief.steal_all.Given as goal

abbrev pub invariant-loop : goal.invariant-loop
invariant-loop g l = record {
  pass : IsPassOf (stealer_deque l.deque) l.pass;
  room : length (view l.fn.thief.pass).jobs ≤ vec_capacity l.ran;
  ran : HasRunItsJobs (IsDoneOf g.J.Runnable.named g.J.Runnable.gives) (view l.fn.thief.pass).jobs (view l.pass) l.ran.items;
}
