use Rattle.std.proofs.Common.{◌≡◌, ◌+◌, ◌<◌, Err, Some, true, sym, ◌∙◌, ap, subst, length, arith}
use Rattle.std.proofs.lemmas.List.{get_or_read}
use Rattle.std.proofs.lemmas.Option.{slice_get_within}
use Rattle.std.specs.Option.{option_map}
use Rattle.std.specs.Prelude.{IfSome}
use Rattle.breadth_first.specs.declared.mark.Mark.{Mark}
use Rattle.breadth_first.specs.declared.mark.Unreached.TheVariants.{TooMany}
use Rattle.breadth_first.specs.Paths.{depth_at, mark_of_start}
use Rattle.breadth_first.proofs.Reachable.{depth_low}
use Rattle.breadth_first.proofs.Searched.{search_after, too_many_discovered}
use Rattle.breadth_first.proofs.reach.follow.Goals as goal

pub overflow_add-depth : goal.overflow_add-depth
overflow_add-depth g c =
    let graph = g.G.Graph.graph c.args.graph.now in
    let marks = c.args.search.now.reached.marks.items in
    let s = c.requires.searching in
    let trail = s.searching.expanding.trail in
    let there : c.args.at < length marks = let within = slice_get_within s.nodes c.args.at c.args.node.now s.here in let marked = trail.marked in omega (arith, within, marked) in
    let low = depth_low graph.labels graph.move s.nodes marks trail (c.args.at + 1) c.args.at c.args.node.now (omega arith) s.here in
    let read : c.index.result.now.depth ≡ depth_at marks c.args.at = ap (λ (m : Mark). m.depth) (get_or_read marks c.args.at c.index.result.now there c.index.ensures mark_of_start) in
    omega (arith, low, read, c.requires.room, c.ranges.most.fits)

pub index-requires : goal.index-requires
index-requires g c =
    let s = c.requires.searching in
    let within = slice_get_within s.nodes c.args.at c.args.node.now s.here in let marked = s.searching.expanding.trail.marked in omega (arith, within, marked)

pub returns-in-Ok-discover-clause-followed : goal.returns-in-Ok-discover-clause-followed
returns-in-Ok-discover-clause-followed g c nodes here searching =
    let graph = g.G.Graph.graph c.args.graph.now in
    let marks = c.args.search.now.reached.marks.items in
    let s = c.requires.searching in
    let there : c.args.at < length marks =
    let within = slice_get_within s.nodes c.args.at c.args.node.now s.here in let marked = s.searching.expanding.trail.marked in omega (arith, within, marked) in
    let read : c.index.result.now.depth ≡ depth_at marks c.args.at = ap (λ (m : Mark). m.depth) (get_or_read marks c.args.at c.index.result.now there c.index.ensures mark_of_start) in
    let moves : graph.move c.args.node.now c.args.label ≡ Some c.in-Some.arrival.node = sym c.in-Ok.ensures.node ∙ ap (option_map (λ a. a.node)) c.in-Some.is in
    search_after graph g.G.Node.PartialEq.eq g.G.Key.PartialEq.eq (g.G.Graph.Holds c.args.graph.now)
    nodes c.args.search.now.reached.keys.keys c.args.search.now.reached.goals.items marks c.args.search.now.queue.items c.args.at searching
    (g.met.G.Graph.same_key c.args.graph.now) g.met.G.Node.Eq.laws (g.met.G.Graph.alike c.args.graph.now)
    c.args.node.now c.in-Some.arrival.node c.args.label (c.index.result.now.depth + 1) c.args.most
    (g.met.G.Graph.holds_after c.args.graph.now c.args.node.now c.in-Some.arrival.node c.args.label (searching.kept.hold c.args.at c.args.node.now here) moves)
    here c.requires.labelled moves (ap (λ d. d + 1) read)
    c.discover.new.search.reached.keys.keys c.discover.new.search.reached.goals.items c.discover.new.search.reached.marks.items c.discover.new.search.queue.items
    c.in-Ok-discover.ensures.discovered

pub returns-in-Err-clause-too_many : goal.returns-in-Err-clause-too_many
returns-in-Err-clause-too_many g c e =
    let graph = g.G.Graph.graph c.args.graph.now in
    let s = c.requires.searching in
    let why : c.in-Err.why ≡ TooMany = cc in
    let t = c.discover.ensures.too_many (c.in-Err.is ∙ ap Err why) in
    let moves : graph.move c.args.node.now c.args.label ≡ Some c.in-Some.arrival.node = sym c.in-Ok.ensures.node ∙ ap (option_map (λ a. a.node)) c.in-Some.is in
    too_many_discovered graph g.G.Node.PartialEq.eq g.G.Key.PartialEq.eq (g.G.Graph.Holds c.args.graph.now)
    s.nodes c.args.search.now.reached.keys.keys c.args.search.now.reached.goals.items c.args.search.now.reached.marks.items c.args.search.now.queue.items c.args.at s.searching
    (g.met.G.Graph.same_key c.args.graph.now) g.met.G.Node.Eq.laws (g.met.G.Graph.alike c.args.graph.now)
    c.args.node.now c.in-Some.arrival.node c.args.label c.args.most
    (g.met.G.Graph.holds_after c.args.graph.now c.args.node.now c.in-Some.arrival.node c.args.label (s.searching.kept.hold c.args.at c.args.node.now s.here) moves)
    s.here c.requires.labelled moves t.0 t.1

pub returns-in-Ok-discover-clause-again : goal.returns-in-Ok-discover-clause-again
returns-in-Ok-discover-clause-again g c e =
    let move = (g.G.Graph.graph c.args.graph.now).move c.args.node.now in
    subst (λ r. IfSome r (λ a. a.again ≡ true → move (c.args.label + 1) ≡ Some a.node)) c.in-Some.is c.in-Ok.ensures.again e
    ∙ sym (sym c.in-Ok.ensures.node ∙ ap (option_map (λ a. a.node)) c.in-Some.is)
