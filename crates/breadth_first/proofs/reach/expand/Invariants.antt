use Rattle.std.proofs.Common.{◌≡◌, ◌+◌, ◌≤◌, true, length}
use Rattle.breadth_first.proofs.Expanding.{IsExpandingLabels}
use Rattle.breadth_first.proofs.reach.expand.Given as goal

abbrev pub invariant-loop-label : goal.invariant-loop-label
invariant-loop-label g l = record {
  discovered : IsExpandingLabels (g.G.Graph.graph l.graph) g.G.Node.PartialEq.eq (g.G.Graph.Holds l.graph) l.node l.at l.search.reached.keys.keys l.search.reached.goals.items l.search.reached.marks.items l.search.queue.items l.label;
  again : l.again ≡ true → IsExpandingLabels (g.G.Graph.graph l.graph) g.G.Node.PartialEq.eq (g.G.Graph.Holds l.graph) l.node l.at l.search.reached.keys.keys l.search.reached.goals.items l.search.reached.marks.items l.search.queue.items (l.label + 1);
  fits : length l.search.reached.keys.keys ≤ l.most;
}
