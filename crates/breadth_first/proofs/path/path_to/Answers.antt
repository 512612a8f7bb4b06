use Rattle.std.proofs.Common.{◌+◌, List, length, sym, ap, subst, refl, ◌∙◌, arith}
use Rattle.std.proofs.lemmas.List.{length_push}
use Rattle.breadth_first.specs.declared.mark.Mark.{Mark}
use Rattle.breadth_first.specs.Paths.{noted_mark, LeadsBy}
use Rattle.breadth_first.proofs.Traced.{IsTraced, traced_more, traced_all}
use Rattle.breadth_first.proofs.path.path_to.Goals as goal

pub loop-preserved : goal.loop-preserved
loop-preserved g c =
    let marks : List Mark = c.args.marks.now in
    let graph = g.G.Graph.graph c.args.graph.now in
    let was = c.loop.invariant in
    record {
      long = ap length c.in-Ok.ensures.items ∙ (length_push c.loop.path.items (noted_mark marks c.loop.at) ∙ ap (λ n. n + 1) was.long);
      traced = λ nodes t. subst (IsTraced graph.labels graph.move nodes marks c.args.index (noted_mark marks c.loop.at).parent (c.loop.counter + 1)) (sym c.in-Ok.ensures.items)
          (traced_more graph.labels graph.move nodes marks t c.args.index c.loop.at c.loop.counter c.loop.path.items (noted_mark marks c.loop.at) (was.traced nodes t) c.loop-test.true refl);
    }

pub returns-clause-leads : goal.returns-clause-leads
returns-clause-leads g c nodes t start node s k =
    let graph = g.G.Graph.graph c.args.graph.now in
    subst (λ (path : List Mark). LeadsBy graph.labels graph.move nodes start path node) (sym c.reverse.ensures.items)
    (traced_all graph.labels graph.move nodes c.args.marks.now t c.args.index c.loop.at c.loop.counter c.loop.path.items (c.loop.invariant.traced nodes t) (omega (arith, c.loop-test.false)) start node s k)
