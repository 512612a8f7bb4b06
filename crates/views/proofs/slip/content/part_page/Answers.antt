use Rattle.std.proofs.Common.{◌≡◌, ◌∙◌}
use Rattle.std.specs.Arc.{arc_value}
use Rattle.std.proofs.lemmas.Result.{IfOk-weaker}
use Rattle.pages.specs.Pages.{config_page}
use Rattle.views.specs.Spots.{part_end}
use Rattle.views.proofs.Lenses.{same_page_if_alike}
use Rattle.views.proofs.slip.content.part_page.Goals as goal

pub returns : goal.returns
returns g c =
    let is = g.R.Behaves.behaviour in
    let config = c.in_ok-config.config in
    IfOk-weaker c.config_page-2.result (λ page. page ≡ config_page (is config.register) c.args.kind c.args.head.now config) _
    (λ page h. h ∙ same_page_if_alike is c.args.kind c.args.head.now config (part_end is (record { run = arc_value c.args.run.now; count = c.args.count })) c.in_ok-config.ensures)
    c.config_page-2.ensures
