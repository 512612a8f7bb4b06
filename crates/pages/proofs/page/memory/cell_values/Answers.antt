use Rattle.std.proofs.Common.{◌∙◌}
use Rattle.std.proofs.lemmas.Result.{IfOk-from_err}
use Rattle.pages.specs.page.Memory.{cell_value}
use Rattle.pages.proofs.Ranges.{taken_all, taken_more}
use Rattle.pages.proofs.page.memory.cell_values.Goals as goal

pub loop-cell-preserved : goal.loop-cell-preserved
loop-cell-preserved c =
    let i = c.loop-cell.cell-index in
    taken_more cell_value c.args.cells.now i _ _ _ c.loop-cell-test.true c.loop-cell.invariant c.in_ok-push.ensures.items

pub returns-in_err-push : goal.returns-in_err-push
returns-in_err-push c = IfOk-from_err c.from_residual.result _ c.from_residual.ensures.0

pub returns : goal.returns
returns c =
    c.new.ensures
    ∙ taken_all cell_value c.args.cells.now c.loop-cell.cell-index _ c.loop-cell-test.false c.loop-cell.invariant
