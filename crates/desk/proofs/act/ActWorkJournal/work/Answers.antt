use Rattle.std.proofs.Common.{◌∙◌}
use Rattle.desk.proofs.Works.{act_for_journal, adds_at_most_one, taken_book}
use Rattle.desk.proofs.act.ActWorkJournal.work.Goals as goal

pub returns-clause-kept : goal.returns-clause-kept
returns-clause-kept g c =
    let book = taken_book g.R.Behaves.behaviour c.journal.inside.first.value c.deref_mut-book.ensures.value c.journal.invariant c.journal.view_is in
    let work = c.args.self.now in
    act_for_journal g.R.Behaves.behaviour c.journal.inside.first.value c.deref_mut-book.result.now c.act-reply.new.self book c.act-reply.ensures.opening c.len.ensures.kept c.args.number work.session work.if_at work.command.now
    (record { at = c.from-at.result; reply = c.act-reply.result }) c.act-reply.ensures.acts c.act-reply.ensures.memory (c.from-at.ensures ∙ c.len.ensures.count)

pub returns-clause-added : goal.returns-clause-added
returns-clause-added g c =
    let book = taken_book g.R.Behaves.behaviour c.journal.inside.first.value c.deref_mut-book.ensures.value c.journal.invariant c.journal.view_is in
    let work = c.args.self.now in
    adds_at_most_one g.R.Behaves.behaviour c.journal.inside.first.value c.deref_mut-book.result.now c.act-reply.new.self book c.act-reply.ensures.opening c.len.ensures.kept c.args.number work.session work.if_at work.command.now
    (record { at = c.from-at.result; reply = c.act-reply.result }) c.act-reply.ensures.acts
