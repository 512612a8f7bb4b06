use Rattle.std.proofs.Common.{◌++◌, ◌∙◌, ap}
use Rattle.std.proofs.lemmas.Result.{IfOk-from_err}
use Rattle.pages.proofs.Lines.{lines_all, lines_more}
use Rattle.pages.proofs.page.lines.push_lines.Goals as goal

pub loop-index-preserved : goal.loop-index-preserved
loop-index-preserved g c =
    let item = c.index-items-index in
    lines_more g.L.Line.line c.args.items.now c.loop-index.index item.result _ _ _ c.loop-index-test.true c.loop-index.invariant
    (c.in_ok-push_line.ensures ∙ ap (λ x. c.loop-index.out.items ++ g.L.Line.line c.loop-index.index x) item.is)

pub returns-in_err-push_line : goal.returns-in_err-push_line
returns-in_err-push_line g c = IfOk-from_err c.from_residual.result _ c.from_residual.ensures.0

pub returns : goal.returns
returns g c = lines_all g.L.Line.line c.args.items.now c.loop-index.index _ _ c.loop-index-test.false c.loop-index.invariant
