use Rattle.std.specs.Prelude.{length}
use Rattle.std.proofs.lemmas.Result.{on_ok_weaker}
use Rattle.pages.specs.page.Cursor.{break_line, cursor_head}
use Rattle.pages.proofs.Lines.{below_head}
use Rattle.pages.proofs.page.cursor.push_cursor.Goals as goal

pub returns : goal.returns
returns c =
    let page = c.args.page.now in
    on_ok_weaker c.push_lines.result
    (below_head break_line (λ breaks. cursor_head c.args.session page.branch page.place (length breaks)) c.as_slice-breaks.result.now page.breaks _ _ _ c.as_slice-breaks.ensures c.in_ok-push_cursor_head.ensures)
    c.push_lines.ensures
