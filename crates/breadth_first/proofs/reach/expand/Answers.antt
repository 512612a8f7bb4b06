use Rattle.std.proofs.Common.{◌+◌, arith}
use Rattle.breadth_first.proofs.Expanding.{no_label_followed, search_at, label_followed, label_skipped, all_labels_followed}
use Rattle.breadth_first.proofs.reach.expand.Goals as goal

pub loop-label-init : goal.loop-label-init
loop-label-init g c = record {
  discovered = no_label_followed (g.G.Graph.graph c.args.graph.now) g.G.Node.PartialEq.eq (g.G.Graph.Holds c.args.graph.now) c.args.node.now c.args.at
      c.args.search.now.reached.keys.keys c.args.search.now.reached.goals.items c.args.search.now.reached.marks.items c.args.search.now.queue.items c.requires.searching;
  again = λ e. cc;
  fits = c.requires.fits;
}

pub follow-requires-clause-searching : goal.follow-requires-clause-searching
follow-requires-clause-searching g c =
    search_at (g.G.Graph.graph c.args.graph.now) g.G.Node.PartialEq.eq (g.G.Graph.Holds c.args.graph.now) c.args.node.now c.args.at
    c.loop-label.search.reached.keys.keys c.loop-label.search.reached.goals.items c.loop-label.search.reached.marks.items c.loop-label.search.queue.items
    c.loop-label.label c.loop-label.invariant.discovered

pub loop-label-preserved-then-again : goal.loop-label-preserved-then-again
loop-label-preserved-then-again g c = record {
  discovered = c.loop-label.invariant.again c.if-again.true;
  again = λ e. cc;
  fits = c.loop-label.invariant.fits;
}

pub loop-label-preserved : goal.loop-label-preserved
loop-label-preserved g c =
    let graph = g.G.Graph.graph c.args.graph.now in
    let reached = c.follow.new.search.reached in
    let more = label_followed graph g.G.Node.PartialEq.eq (g.G.Graph.Holds c.args.graph.now) c.args.node.now c.args.at
    c.loop-label.search.reached.keys.keys c.loop-label.search.reached.goals.items c.loop-label.search.reached.marks.items c.loop-label.search.queue.items
    c.loop-label.label c.loop-label.invariant.discovered
    reached.keys.keys reached.goals.items reached.marks.items c.follow.new.search.queue.items c.in-Ok.ensures.followed in
    record {
      discovered = more;
      again = λ e. label_skipped graph g.G.Node.PartialEq.eq (g.G.Graph.Holds c.args.graph.now) c.args.node.now c.args.at
          reached.keys.keys reached.goals.items reached.marks.items c.follow.new.search.queue.items
          (c.loop-label.label + 1) more c.loop-label.label (omega arith) (c.in-Ok.ensures.again e);
      fits = c.in-Ok.ensures.fits;
    }

pub returns-clause-expanded : goal.returns-clause-expanded
returns-clause-expanded g c =
    all_labels_followed (g.G.Graph.graph c.args.graph.now) g.G.Node.PartialEq.eq (g.G.Graph.Holds c.args.graph.now) c.args.node.now c.args.at
    c.loop-label.search.reached.keys.keys c.loop-label.search.reached.goals.items c.loop-label.search.reached.marks.items c.loop-label.search.queue.items
    c.loop-label.label c.loop-label.invariant.discovered (omega (arith, c.loop-label-test.false, c.label_count-label-end.ensures))
