use Rattle.std.proofs.Common.{◌∙◌, ◌<◌, [], length, sym, ap, arith}
use Rattle.std.proofs.lemmas.List.{get_or_default}
use Rattle.sessions.specs.BreakLists.{has_break, without_break}
use Rattle.sessions.specs.Books.{stored}
use Rattle.sessions.proofs.BreakAnswers.{break_cleared, clear_refused}
use Rattle.sessions.proofs.workspace.Workspace.clear_break.Goals as goal

pub returns : goal.returns
returns g c = λ n.
    let s = c.args.self.now in
    let who = c.args.who in
    let gone = c.args.gone in
    let within : who < length s.breaks.items = omega (arith, c.requires.session, c.requires.can.breaks) in
    let was = c.index.ensures ∙ get_or_default s.breaks.items who _ [] within in
    let here = c.index_mut.ensures.value ∙ get_or_default s.breaks.items who _ [] within in
    break_cleared g.R.Behaves.behaviour (stored s n) who gone c.remove.new.self (ap (has_break gone) (sym was) ∙ sym c.if-not-has.ensures)
    (c.remove.ensures ∙ ap (without_break gone) here)

pub returns-then-not-has : goal.returns-then-not-has
returns-then-not-has g c = λ n.
    let s = c.args.self.now in
    let who = c.args.who in
    let within : who < length s.breaks.items = omega (arith, c.requires.session, c.requires.can.breaks) in
    let was = c.index.ensures ∙ get_or_default s.breaks.items who _ [] within in
    clear_refused g.R.Behaves.behaviour (stored s n) who c.args.gone (ap (has_break c.args.gone) (sym was) ∙ sym c.if-not-has.ensures)
