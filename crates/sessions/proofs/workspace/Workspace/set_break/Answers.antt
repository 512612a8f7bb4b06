use Rattle.std.proofs.Common.{◌∙◌, ◌<◌, [], length, ap, arith}
use Rattle.std.proofs.lemmas.List.{get_or_default, set-get_or}
use Rattle.std.specs.Prelude.{slice_set}
use Rattle.sessions.specs.BreakLists.{with_break}
use Rattle.sessions.specs.Books.{stored}
use Rattle.sessions.proofs.BreakAnswers.{break_set, set_lacks_memory}
use Rattle.sessions.proofs.workspace.Workspace.set_break.Goals as goal

pub returns : goal.returns
returns g c = λ n.
    let s = c.args.self.now in
    let who = c.args.who in
    let within : who < length s.breaks.items = omega (arith, c.requires.session, c.requires.can.breaks) in
    let was = c.index_mut.ensures.value ∙ get_or_default s.breaks.items who _ [] within in
    break_set g.R.Behaves.behaviour (stored s n) who c.args.added c.add.new.self (c.in_ok-add.ensures.ok ∙ ap (with_break c.args.added) was)

pub returns-in_err-add : goal.returns-in_err-add
returns-in_err-add g c = λ n.
    let s = c.args.self.now in
    let same = ap (slice_set s.breaks.items c.args.who) (c.in_err-add.ensures.err ∙ c.index_mut.ensures.value) ∙ set-get_or s.breaks.items c.args.who _ in
    set_lacks_memory g.R.Behaves.behaviour (stored s n) c.args.who c.args.added c.add.new.self c.from_residual.result _ c.from_residual.ensures.1 (λ x h. h) same
