use Rattle.std.proofs.Common.{ap, ◌++◌, ◌∙◌, arith}
use Rattle.std.specs.Option.{option_to_list}
use Rattle.breadth_first.proofs.Searched.{popped, found_all_if_queue_is_empty, found_all_if_all_are_expanded}
use Rattle.breadth_first.proofs.reach.expand_all.Goals as goal

pub expand-requires-clause-searching : goal.expand-requires-clause-searching
expand-requires-clause-searching g c =
    popped (g.G.Graph.graph c.args.graph.now) g.G.Node.PartialEq.eq g.G.Key.PartialEq.eq (g.G.Graph.Holds c.args.graph.now)
    c.loop-at.search.reached.keys.keys c.loop-at.search.reached.goals.items c.loop-at.search.reached.marks.items c.loop-at.search.queue.items c.loop-at.at c.loop-at.invariant.search
    c.in-Some.node c.pop_front.new.self.items c.in-Some.ensures.items

pub returns-after-loop-at-clause-all : goal.returns-after-loop-at-clause-all
returns-after-loop-at-clause-all g c =
    found_all_if_all_are_expanded (g.G.Graph.graph c.args.graph.now) g.G.Node.PartialEq.eq g.G.Key.PartialEq.eq (g.G.Graph.Holds c.args.graph.now)
    c.loop-at.search.reached.keys.keys c.loop-at.search.reached.goals.items c.loop-at.search.reached.marks.items c.loop-at.search.queue.items c.loop-at.at c.loop-at.invariant.search
    g.met.G.Node.Eq.laws (g.met.G.Graph.alike c.args.graph.now) (omega (arith, c.loop-at.invariant.fits, c.loop-at-test.false))

pub returns-in_default-clause-all : goal.returns-in_default-clause-all
returns-in_default-clause-all g c =
    found_all_if_queue_is_empty (g.G.Graph.graph c.args.graph.now) g.G.Node.PartialEq.eq g.G.Key.PartialEq.eq (g.G.Graph.Holds c.args.graph.now)
    c.loop-at.search.reached.keys.keys c.loop-at.search.reached.goals.items c.loop-at.search.reached.marks.items c.loop-at.search.queue.items c.loop-at.at c.loop-at.invariant.search
    g.met.G.Node.Eq.laws (g.met.G.Graph.alike c.args.graph.now)
    ((c.pop_front.ensures.items ∙ ap (λ o. option_to_list o ++ c.pop_front.new.self.items) c.in_default.is) ∙ c.pop_front.ensures.rest)
