use Rattle.std.specs.Prelude.{length}
use Rattle.std.proofs.lemmas.Result.{on_ok_weaker}
use Rattle.pages.specs.page.Branches.{branch_line, branches_head}
use Rattle.pages.proofs.Lines.{below_head}
use Rattle.pages.proofs.page.branches.push_branches.Goals as goal

pub returns : goal.returns
returns c =
    let page = c.args.page.now in
    on_ok_weaker c.push_lines.result
    (below_head branch_line (λ branches. branches_head c.args.session (length branches) page.edits page.made) c.as_slice-branches.result.now page.branches _ _ _ c.as_slice-branches.ensures c.in_ok-push_branches_head.ensures)
    c.push_lines.ensures
