use Rattle.std.proofs.Common.{◌∙◌, Ok, sym, subst}
use Rattle.sessions.specs.Saves.{IsSaved}
use Rattle.desk.specs.Works.{IsSaving}
use Rattle.desk.proofs.Works.{unchanged_for_journal, taken_book, save_refused_as_memory}
use Rattle.desk.proofs.save.SaveWorkJournal.work.Goals as goal

pub returns-in_err-limbs-clause-kept : goal.returns-in_err-limbs-clause-kept
returns-in_err-limbs-clause-kept g c =
    let first = c.journal.inside.first.value in
    let r = c.from_residual.result in
    unchanged_for_journal g.R.Behaves.behaviour first c.deref-book.result.now (taken_book g.R.Behaves.behaviour first c.deref-book.ensures c.journal.invariant c.journal.view_is) c.len.ensures.kept (λ n w. IsSaving n w r)
    (save_refused_as_memory _ _ r _ c.from_residual.ensures.1 (λ x h. h))

pub returns-clause-kept : goal.returns-clause-kept
returns-clause-kept g c =
    let first = c.journal.inside.first.value in
    let r = Ok (record { at = c.from-at.result; limbs = c.new-limbs.result }) in
    unchanged_for_journal g.R.Behaves.behaviour first c.deref-book.result.now (taken_book g.R.Behaves.behaviour first c.deref-book.ensures c.journal.invariant c.journal.view_is) c.len.ensures.kept (λ n w. IsSaving n w r)
    (c.from-at.ensures ∙ c.len.ensures.count, subst (IsSaved _) (sym c.new-limbs.ensures) c.in_ok-limbs.ensures)
