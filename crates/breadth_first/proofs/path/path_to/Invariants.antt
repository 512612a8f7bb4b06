use Rattle.std.proofs.Common.{List, ◌≡◌, length}
use Rattle.breadth_first.specs.Paths.{IsTrail}
use Rattle.breadth_first.proofs.Traced.{IsTraced}
use Rattle.breadth_first.proofs.path.path_to.Given as goal

abbrev pub invariant-loop : goal.invariant-loop
invariant-loop g l = record {
  long : length l.path.items ≡ l.counter;
  traced : (nodes : List g.row.G-Node.Denot) → IsTrail (g.G.Graph.graph l.graph).labels (g.G.Graph.graph l.graph).move nodes l.marks
      → IsTraced (g.G.Graph.graph l.graph).labels (g.G.Graph.graph l.graph).move nodes l.marks l.index l.at l.counter l.path.items;
}
