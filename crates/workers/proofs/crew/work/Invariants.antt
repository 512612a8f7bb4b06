use Rattle.std.proofs.Common.{◌≡◌, ◌-◌, length}
use Rattle.crossbeam_deque.specs.Handles.{worker_flavor, worker_view}
use Rattle.workers.specs.Outcomes.{IsDoneOf}
use Rattle.workers.specs.Owner.{SameOwner}
use Rattle.workers.specs.Slots.{IsAtWork}
use Rattle.workers.proofs.crew.work.Given as goal

abbrev pub invariant-loop-taken : goal.invariant-loop-taken
invariant-loop-taken g l = record {
  same : SameOwner l.fn.workplace.0 l.owner;
  fifo : worker_flavor l.owner ≡ 0;
  ready : IsAtWork (IsDoneOf g.J.Runnable.named g.J.Runnable.gives) (worker_view l.fn.workplace.0).jobs (worker_view l.owner) l.slots.items;
}

abbrev pub decreases-loop-taken : goal.decreases-loop-taken
decreases-loop-taken g l = length (worker_view l.owner).jobs - length (worker_view l.owner).taken
