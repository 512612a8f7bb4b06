use Rattle.std.proofs.Common.{◌∙◌}
use Rattle.desk.proofs.Works.{look_for_journal, taken_book}
use Rattle.desk.proofs.look.LookWorkJournal.work.Goals as goal

pub returns-clause-kept : goal.returns-clause-kept
returns-clause-kept g c =
    let first = c.journal.inside.first.value in
    let looked = c.look-slip.ensures in
    look_for_journal g.R.Behaves.behaviour first c.deref_mut-book.result.now c.look-slip.new.self (taken_book g.R.Behaves.behaviour first c.deref_mut-book.ensures.value c.journal.invariant c.journal.view_is) looked.kept.opening c.len.ensures.kept
    c.args.self.now.query c.from.result c.look-slip.result looked.page looked.found looked.err looked.never_stray looked.kept.world looked.kept.log (c.from.ensures ∙ c.len.ensures.count)
