use Rattle.desk.proofs.Works.{plan_for_journal, taken_book}
use Rattle.desk.proofs.plan.PlanWorkJournal.work.Goals as goal

pub returns-clause-kept : goal.returns-clause-kept
returns-clause-kept g c =
    let first = c.journal.inside.first.value in
    let planned = c.jobs_left.ensures in
    plan_for_journal g.R.Behaves.behaviour first c.deref-book.result.now (taken_book g.R.Behaves.behaviour first c.deref-book.ensures c.journal.invariant c.journal.view_is) c.lemma_invariant.ensures.log
    c.args.self.now.branch.now c.jobs_left.result planned.found planned.err
