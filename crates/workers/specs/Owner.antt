-- What stays the same in the caller's end of a crew's deque while the crew works.
use Rattle.std.specs.Prelude.{◌≡◌}
use Rattle.crossbeam_deque.specs.declared.handles.Worker.{Worker}
use Rattle.crossbeam_deque.specs.Handles.{worker_deque, worker_flavor, worker_view}
use Rattle.workers.specs.declared.hand.Hand.{Hand}

-- the caller's end of a deque at two times: the deque and its flavor (in which order jobs are
-- taken) are the same, and so is the number of parts that the caller's hand has
abbrev pub SameOwner : {J T A P : Type 0} → Worker T A (Hand J) P → Worker T A (Hand J) P → Type 0
SameOwner old new = (worker_deque new ≡ worker_deque old) × (worker_flavor new ≡ worker_flavor old) × ((worker_view new).parts ≡ (worker_view old).parts)
