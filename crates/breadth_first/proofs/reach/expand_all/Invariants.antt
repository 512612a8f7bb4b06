use Rattle.std.proofs.Common.{◌≤◌, length}
use Rattle.breadth_first.specs.Searches.{IsSearch}
use Rattle.breadth_first.proofs.reach.expand_all.Given as goal

abbrev pub invariant-loop-at : goal.invariant-loop-at
invariant-loop-at g l = record {
  search : IsSearch (g.G.Graph.graph l.graph) g.G.Node.PartialEq.eq (g.G.Graph.Holds l.graph) l.search.reached.keys.keys l.search.reached.goals.items l.search.reached.marks.items l.search.queue.items l.at l.at;
  fits : length l.search.reached.keys.keys ≤ l.most;
}
