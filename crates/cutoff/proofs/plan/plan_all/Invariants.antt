use Rattle.std.proofs.Common.{List, [], ◌∷◌, drop, map}
use Rattle.schedule_trie.specs.Trie.{keys_in}
use Rattle.cutoff.specs.Plans.{Planned, Plans, keys_of}
use Rattle.cutoff.specs.FoundFits.{AreSeen}
use Rattle.cutoff.proofs.plan.plan_all.Given as goal

abbrev pub invariant-loop-other : goal.invariant-loop-other
invariant-loop-other g l =
    let E = g.R.PartialEq.eq in
    let b = g.R.Behaves.behaviour l.base.start.now.register in
    record {
      jobs : (all : List (Planned g.row.R.Denot g.row.R-Pending.Denot)) → Plans E b l.base.trie.now l.base.start.now l.planning.jobs.items (map keys_of (drop l.other l.base.trie.now.branches)) all
          → Plans E b l.base.trie.now l.base.start.now [] (keys_in l.base.trie.now.branches l.fn.index ∷ map keys_of l.base.trie.now.branches) all;
      seen : AreSeen E g.R.Behaves.behaviour l.base.trie.now l.base.start.now l.planning.seen.items l.planning.jobs.items;
    }
