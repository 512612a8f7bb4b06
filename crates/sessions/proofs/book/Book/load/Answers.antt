use Rattle.std.proofs.Common.{◌∙◌, ap, subst, Ok}
use Rattle.schedule_trie.specs.Trie.{forest}
use Rattle.sessions.specs.Books.{IsNewBook}
use Rattle.sessions.proofs.NewBooks.{loaded_is, opening_over_is}
use Rattle.sessions.proofs.book.Book.load.Goals as goal

pub returns-clause-new : goal.returns-clause-new
returns-clause-new g c =
    let chart = c.in_ok-chart.ensures in
    let same = loaded_is c.args.limits c.args.limbs.now (forest c.in_ok-chart.chart.trie) chart.forest in
    let first = opening_over_is g.R.Behaves.behaviour c.in_ok-chart.chart _ _ _ _ (ap (λ s. s.register) chart.new.start) chart.new.value same.0 in
    subst (λ w. IsNewBook g.R.Behaves.behaviour w c.in_ok-over.field-0) first c.in_ok-over.ensures

pub returns-clause-ok : goal.returns-clause-ok
returns-clause-ok g c =
    let opened = c.in_ok-chart.ensures.forest in
    let same = loaded_is c.args.limits c.args.limbs.now (forest c.in_ok-chart.chart.trie) opened in
    opened ∙ ap Ok same.0
