use Rattle.std.proofs.Common.{sym, ap, ◌∙◌}
use Rattle.pages.specs.declared.page.head.Head.{Head}
use Rattle.views.specs.RunPages.{content_page, config_content}
use Rattle.views.proofs.Slips.{config_content_page, last_page_is}
use Rattle.views.proofs.slip.config_slip.Goals as goal

pub returns-clause-page : goal.returns-clause-page
returns-clause-page g c =
    let is = g.R.Behaves.behaviour in
    let start = c.args.chart.now.start in
    let last = c.in_ok-last.last in
    let ok = c.in_ok-last.ensures.ok in
    let head : Head = record { branch = c.args.branch; place = c.args.place; len = last.len } in
    ap (content_page is) (c.in_ok-content.ensures ∙ ap (λ first. config_content c.args.kind head first last.part) (c.initial.ensures.start ∙ c.in_ok-last.ensures.start))
    ∙ config_content_page is c.args.kind head start ok.0 last.part ok.2
    ∙ last_page_is g.R.PartialEq.eq g.met.R.Eq.laws is g.met.R.Register.alike c.args.chart.now c.settle_last.new.self c.args.branch c.args.place last.len ok.0 last.replayed (sym c.in_ok-last.ensures.len)
    c.in_ok-last.ensures.begins ok.1 c.args.kind
