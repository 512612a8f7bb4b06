use Rattle.std.proofs.Common.{drop}
use Rattle.cutoff.proofs.FoundFits.{IsPlanning}
use Rattle.cutoff.proofs.plan.plan_branch.Given as goal

abbrev pub invariant-loop-key : goal.invariant-loop-key
invariant-loop-key g l =
    IsPlanning g.R.PartialEq.eq g.R.Behaves.behaviour l.base.trie.now l.base.start.now l.fn.planning.jobs.items l.planning.jobs.items l.planning.seen.items l.fn.index (drop l.key-index l.key-items) l.fits
