use Rattle.std.proofs.Common.{◌≡◌, ◌∙◌, [], None, Some, Ok, Err, if◌then◌else◌, inl, sym, ap, subst, arith}
use Rattle.std.proofs.lemmas.List.{get_or_default}
use Rattle.schedule_trie.specs.declared.refusal.Refusal.TheVariants.{NoSession}
use Rattle.schedule_trie.specs.Trie.{forest}
use Rattle.schedule_trie.specs.Forest.{IsRefused}
use Rattle.pages.specs.Strays.{ShowsNoStray}
use Rattle.pages.specs.declared.query.Query.TheVariants.{Cursor}
use Rattle.sessions.specs.BreakLists.{breaks_at}
use Rattle.sessions.specs.Books.{opening_of}
use Rattle.sessions.specs.Logs.{world_after}
use Rattle.sessions.specs.Looks.{cursor_page, looked_in, shown_in}
use Rattle.sessions.proofs.CommandAnswers.{none_if_never_some}
use Rattle.sessions.proofs.Looks.{cursor_at_is, lacks_cursor_is}
use Rattle.sessions.proofs.book.Book.look_at_cursor.Goals as goal

pub returns-clause-page : goal.returns-clause-page
returns-clause-page g c =
    let s = c.self.inside.workspace in
    let who = c.args.who in
    let within = c.if-index-ge-SESSIONS.false in
    let after = c.self.invariant.held.after ∙ ap (λ h. world_after (opening_of g.R.Behaves.behaviour h) h.log) c.self.view_is in
    let found = cursor_at_is s.cursors who _ (Some c.in-Some.cursor) c.self.invariant.sound.cursors within c.in-Some.is in
    let breaks : breaks_at s.breaks.items who ≡ c.new-breaks.result =
    get_or_default s.breaks.items who [] c.index.result.now (omega (arith, within, c.self.invariant.sound.breaks))
    ∙ sym (c.new-breaks.ensures ∙ c.in_ok-breaks.ensures.items ∙ c.as_slice.ensures ∙ c.index.ensures) in
    subst (λ w. Some c.of.result.page ≡ shown_in w (Cursor who)) after (ap Some c.of.ensures.page ∙ λ k. cursor_page (sym found k) (sym breaks k))

pub returns-clause-found : goal.returns-clause-found
returns-clause-found g c =
    let s = c.self.inside.workspace in
    let after = c.self.invariant.held.after ∙ ap (λ h. world_after (opening_of g.R.Behaves.behaviour h) h.log) c.self.view_is in
    subst (λ w. looked_in w (Cursor c.args.who) ≡ Ok w.forest) after
    (ap (λ b. if b then Err NoSession else Ok (forest s.chart.trie))
    (lacks_cursor_is s.cursors c.args.who _ (Some c.in-Some.cursor) c.self.invariant.sound.cursors c.if-index-ge-SESSIONS.false c.in-Some.is))

pub returns-clause-no_stray : goal.returns-clause-no_stray
returns-clause-no_stray g c = subst ShowsNoStray (sym c.of.ensures.page) tt

pub returns-in_default-clause-err : goal.returns-in_default-clause-err
returns-in_default-clause-err g c =
    let s = c.self.inside.workspace in
    let after = c.self.invariant.held.after ∙ ap (λ h. world_after (opening_of g.R.Behaves.behaviour h) h.log) c.self.view_is in
    let none = sym (none_if_never_some _ c.in_default.not-Some) in
    subst (λ w. IsRefused (looked_in w (Cursor c.args.who)) NoSession) after
    (inl (ap (λ b. if b then Err NoSession else Ok (forest s.chart.trie)) (lacks_cursor_is s.cursors c.args.who _ None c.self.invariant.sound.cursors c.if-index-ge-SESSIONS.false none)))
