use Rattle.std.proofs.Common.{◌≡◌, ◌∷◌, [], Err, length, ap, sym, ◌∙◌, arith}
use Rattle.std.proofs.lemmas.Result.{err_from_is_err_and}
use Rattle.breadth_first.specs.declared.mark.Unreached.TheVariants.{TooMany}
use Rattle.breadth_first.proofs.Started.{start_is_too_many}
use Rattle.breadth_first.proofs.Searched.{search_begun, not_too_many_keys}
use Rattle.breadth_first.proofs.reach.reach.Goals as goal

pub returns-in_err-discover-clause-too_many : goal.returns-in_err-discover-clause-too_many
returns-in_err-discover-clause-too_many g c e =
    let graph = g.G.Graph.graph c.args.graph.now in
    let given = err_from_is_err_and c.from_residual.result c.from_residual.ensures.1 in
    let same : Err given.0 ≡ Err TooMany = sym given.1 ∙ e in
    let why : given.0 ≡ TooMany = cc in
    let t = c.in_err-discover.ensures.too_many (ap Err (sym given.2 ∙ why)) in
    let none : length c.begin-search.result.reached.keys.keys ≡ 0 = ap length c.begin-search.ensures.keys in
    start_is_too_many graph.labels graph.move g.G.Node.PartialEq.eq g.met.G.Node.Eq.laws (g.met.G.Graph.alike c.args.graph.now) graph.origin c.args.most (omega (arith, t.1, none))

pub expand_all-requires-clause-searching : goal.expand_all-requires-clause-searching
expand_all-requires-clause-searching g c = record {
  nodes = c.args.start ∷ [];
  searching = (search_begun (g.G.Graph.graph c.args.graph.now) g.G.Node.PartialEq.eq g.G.Key.PartialEq.eq (g.G.Graph.Holds c.args.graph.now)
      (g.met.G.Graph.same_key c.args.graph.now) g.met.G.Node.Eq.laws (g.met.G.Graph.alike c.args.graph.now)
      c.args.start c.args.most c.requires.starts c.requires.holds
      c.begin-search.result.reached.keys.keys c.discover.new.search.reached.keys.keys
      c.begin-search.result.reached.goals.items c.discover.new.search.reached.goals.items
      c.begin-search.result.reached.marks.items c.discover.new.search.reached.marks.items
      c.begin-search.result.queue.items c.discover.new.search.queue.items
      c.begin-search.ensures.keys c.begin-search.ensures.goals c.begin-search.ensures.marks c.begin-search.ensures.queue c.in_ok-discover.ensures.discovered).0;
}

pub returns-clause-few : goal.returns-clause-few
returns-clause-few g c =
    not_too_many_keys (g.G.Graph.graph c.args.graph.now) g.G.Node.PartialEq.eq g.G.Key.PartialEq.eq (g.G.Graph.Holds c.args.graph.now)
    g.met.G.Node.Eq.laws (g.met.G.Graph.alike c.args.graph.now)
    c.expand_all.new.search.reached.keys.keys c.expand_all.new.search.reached.goals.items c.expand_all.new.search.reached.marks.items
    c.args.most c.in_ok-expand_all.ensures.all c.in_ok-expand_all.ensures.fits
