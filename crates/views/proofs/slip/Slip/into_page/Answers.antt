use Rattle.std.proofs.Common.{rules, Ok}
use Rattle.std.specs.Prelude.{IfOk, ⊤}
use Rattle.pages.specs.Strays.{JudgesRegister}
use Rattle.views.proofs.Strays.{judged_page_shows_no_stray}
use Rattle.views.proofs.slip.Slip.into_page.Goals as goal

pub returns-in-Ready-clause-never_stray : goal.returns-in-Ready-clause-never_stray
returns-in-Ready-clause-never_stray g c =
    let judged : JudgesRegister g.R.Behaves.behaviour c.args.self.judged c.in-Ready.page = search rules in
    judged_page_shows_no_stray {E = ⊤} g.R.Behaves.behaviour c.args.self.judged (Ok c.in-Ready.page) judged

pub returns-clause-never_stray : goal.returns-clause-never_stray
returns-clause-never_stray g c =
    let judged : IfOk c.page.result (JudgesRegister g.R.Behaves.behaviour c.args.self.judged) = search rules in
    judged_page_shows_no_stray g.R.Behaves.behaviour c.args.self.judged c.page.result judged
