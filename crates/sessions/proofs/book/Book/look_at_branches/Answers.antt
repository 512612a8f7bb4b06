use Rattle.std.proofs.Common.{◌≡◌, ◌∙◌, Some, ap, sym, subst}
use Rattle.pages.specs.Strays.{ShowsNoStray}
use Rattle.pages.specs.declared.page.Page.TheVariants as page
use Rattle.pages.specs.declared.query.Query.TheVariants.{Branches}
use Rattle.sessions.specs.Books.{opening_of}
use Rattle.sessions.specs.Logs.{world_after}
use Rattle.sessions.specs.Looks.{shown_in}
use Rattle.sessions.proofs.book.Book.look_at_branches.Goals as goal

pub returns-clause-page : goal.returns-clause-page
returns-clause-page g c =
    let after = c.self.invariant.held.after ∙ ap (λ h. world_after (opening_of g.R.Behaves.behaviour h) h.log) c.self.view_is in
    subst (λ w. Some c.of.result.page ≡ shown_in w Branches) after (ap Some (c.of.ensures.page ∙ ap page.Branches c.in_ok-page.ensures))

pub returns-clause-no_stray : goal.returns-clause-no_stray
returns-clause-no_stray g c = subst ShowsNoStray (sym c.of.ensures.page) tt
