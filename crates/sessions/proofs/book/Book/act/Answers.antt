use Rattle.std.proofs.Common.{◌≤◌, ◌∙◌, inl, ap, arith}
use Rattle.branch_terms.specs.declared.limits.TheConstants.{MOST_CELLS_MADE}
use Rattle.schedule_trie.specs.Trie.{forest}
use Rattle.sessions.specs.Logs.{entry}
use Rattle.sessions.specs.Books.{opening_of}
use Rattle.sessions.proofs.Books.{book_kept, book_after, acts_on_book, log_count, never_out_of_memory, opening_kept, opening_after}
use Rattle.sessions.proofs.CursorBounds.{are_within}
use Rattle.sessions.proofs.book.Book.act.Goals as goal

pub answer-requires : goal.answer-requires
answer-requires g c =
    let s = c.self.inside.workspace in
    let sound = c.self.invariant.sound in
    let few : (forest s.chart.trie).made ≤ MOST_CELLS_MADE = omega (arith, sound.few_cells, sound.in_range.most_cells) in
    record {
      within = are_within (forest s.chart.trie) s.cursors c.lemma_invariant.ensures.forest few sound.all_placed;
      breaks = sound.breaks;
      few_edits = omega (arith, sound.few_edits, c.self.invariant.held.few, c.self.invariant.held.most_log);
    }

pub invariant_of-self-in_default-answer : goal.invariant_of-self-in_default-answer
invariant_of-self-in_default-answer g c =
    let i = c.self.inside in
    let is = g.R.Behaves.behaviour in
    book_kept is i.first.value i.workspace c.answer.new.self i.log c.reserve.new.self i.log_limit c.len.result c.self.invariant (log_count c.self.view_is c.len.ensures.count) c.if-len-self.false c.reserve.ensures.items c.args.who c.args.if_at c.args.command.now c.in_default-answer.ensures

pub returns-in_default-answer-clause-opening : goal.returns-in_default-answer-clause-opening
returns-in_default-answer-clause-opening g c =
    let i = c.self.inside in
    let is = g.R.Behaves.behaviour in
    opening_kept is i.first.value i.workspace c.answer.new.self i.log c.reserve.new.self i.log_limit c.len.result c.self.invariant (log_count c.self.view_is c.len.ensures.count) c.if-len-self.false c.reserve.ensures.items c.args.who c.args.if_at c.args.command.now c.in_default-answer.ensures ∙ ap (opening_of is) c.self.view_is

pub invariant_of-self-2 : goal.invariant_of-self-2
invariant_of-self-2 g c =
    let i = c.self.inside in
    let is = g.R.Behaves.behaviour in
    book_after is i.first.value i.workspace c.answer.new.self i.log c.reserve.new.self i.log_limit c.len.result c.self.invariant (log_count c.self.view_is c.len.ensures.count) c.if-len-self.false c.reserve.ensures.items
    c.push_within.new.list (entry c.args.chair c.args.who c.args.if_at c.args.command.now c.in-Ok-answer.reply) c.entry.result c.entry.ensures c.push_within.ensures c.in-Ok-answer.ensures c.lemma_invariant.ensures.forest c.lemma_invariant-2.ensures.forest

pub returns-clause-acts : goal.returns-clause-acts
returns-clause-acts g c =
    let i = c.self.inside in
    let is = g.R.Behaves.behaviour in
    rw (← c.self.view_is) (inl (acts_on_book is i.first.value i.workspace c.answer.new.self i.log c.reserve.new.self i.log_limit c.len.result c.self.invariant (log_count c.self.view_is c.len.ensures.count) c.if-len-self.false c.reserve.ensures.items
    c.push_within.new.list (entry c.args.chair c.args.who c.args.if_at c.args.command.now c.in-Ok-answer.reply) c.entry.result c.entry.ensures c.push_within.ensures c.in-Ok-answer.ensures))

pub returns-clause-memory : goal.returns-clause-memory
returns-clause-memory g c = λ memory.
    let i = c.self.inside in
    let is = g.R.Behaves.behaviour in
    absurd (never_out_of_memory is i.first.value i.workspace c.answer.new.self i.log c.reserve.new.self i.log_limit c.len.result c.self.invariant (log_count c.self.view_is c.len.ensures.count) c.if-len-self.false c.reserve.ensures.items
    c.push_within.new.list (entry c.args.chair c.args.who c.args.if_at c.args.command.now c.in-Ok-answer.reply) c.entry.result c.entry.ensures c.push_within.ensures c.in-Ok-answer.ensures memory)

pub returns-clause-opening : goal.returns-clause-opening
returns-clause-opening g c =
    let i = c.self.inside in
    let is = g.R.Behaves.behaviour in
    opening_after is i.first.value i.workspace c.answer.new.self i.log c.reserve.new.self i.log_limit c.len.result c.self.invariant (log_count c.self.view_is c.len.ensures.count) c.if-len-self.false c.reserve.ensures.items
    c.push_within.new.list (entry c.args.chair c.args.who c.args.if_at c.args.command.now c.in-Ok-answer.reply) c.entry.result c.entry.ensures c.push_within.ensures c.in-Ok-answer.ensures ∙ ap (opening_of is) c.self.view_is
