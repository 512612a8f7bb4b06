use Rattle.std.proofs.Common.{refl}
use Rattle.desk.proofs.Works.{reading_for_journal, taken_book}
use Rattle.desk.proofs.install.InstallWorkJournal.work.Goals as goal

pub returns-in_err-run-clause-kept : goal.returns-in_err-run-clause-kept
returns-in_err-run-clause-kept g c =
    let is = g.R.Behaves.behaviour in
    let first = c.journal.inside.first.value in
    let old = c.deref_mut-book.result.now in
    reading_for_journal is first old old (taken_book is first c.deref_mut-book.ensures.value c.journal.invariant c.journal.view_is) refl c.lemma_invariant.ensures.log (λ n w. Unit {0}) refl refl tt

pub returns-clause-kept : goal.returns-clause-kept
returns-clause-kept g c =
    let is = g.R.Behaves.behaviour in
    let first = c.journal.inside.first.value in
    let offered = c.install_in-answer.ensures in
    reading_for_journal is first c.deref_mut-book.result.now c.install_in-answer.new.book (taken_book is first c.deref_mut-book.ensures.value c.journal.invariant c.journal.view_is) offered.kept.opening c.lemma_invariant-2.ensures.log
    (λ n w. Unit {0}) offered.kept.world offered.kept.log tt
