use Rattle.std.proofs.Common.{rules}
use Rattle.std.specs.Prelude.{IfOk}
use Rattle.pages.specs.Strays.{JudgesRegister}
use Rattle.views.proofs.Strays.{judged_page_shows_no_stray}
use Rattle.views.proofs.slip.Slip.page.Goals as goal

pub returns-clause-never_stray : goal.returns-clause-never_stray
returns-clause-never_stray g c =
    let judged : IfOk c.page.result (JudgesRegister g.R.Behaves.behaviour c.args.self.now.judged) = search rules in
    judged_page_shows_no_stray g.R.Behaves.behaviour c.args.self.now.judged c.page.result judged
