use Rattle.std.proofs.Common.{subst}
use Rattle.schedule_trie.specs.Trie.{IsCut}
use Rattle.sessions.specs.Books.{BeginsAtOpening}
use Rattle.sessions.specs.Books.{book_of}
use Rattle.sessions.proofs.SameStart.{begins_at_opening}
use Rattle.sessions.proofs.book.Book.lemma_invariant.Goals as goal

pub returns-clause-cut : goal.returns-clause-cut
returns-clause-cut g c = subst (λ h. IsCut h.now.chart.trie) c.self.view_is c.lemma_invariant.ensures.cut

pub returns-clause-begins : goal.returns-clause-begins
returns-clause-begins g c =
    let is = g.R.Behaves.behaviour in
    let i = c.self.inside in
    subst (BeginsAtOpening is) c.self.view_is (begins_at_opening is (book_of i.first.value i.workspace i.log) c.self.invariant.held c.lemma_invariant.ensures.initial)
