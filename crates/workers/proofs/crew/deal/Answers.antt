use Rattle.std.proofs.Common.{arith}
use Rattle.workers.proofs.DequeRule.{deals_next}
use Rattle.workers.proofs.crew.deal.Goals as goal

pub push_as-requires-clause-pushes : goal.push_as-requires-clause-pushes
push_as-requires-clause-pushes g c = deals_next _ _ _ _ c.loop-job.invariant.dealt (let next = c.loop-job.invariant.next in let len = c.len-index.ensures in omega arith)
