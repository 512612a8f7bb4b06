use Rattle.std.proofs.Common.{◌≡◌, ◌∙◌, sym, ap, Some}
use Rattle.std.specs.Prelude.{option_and_then}
use Rattle.std.specs.Option.{option_map}
use Rattle.std.proofs.lemmas.Result.{IfOk-weaker}
use Rattle.schedule_trie.specs.Trie.{forest}
use Rattle.views.specs.Looks.{steps_in}
use Rattle.sessions.specs.Acts.{hit_from}
use Rattle.sessions.specs.BreakLists.{breaks_at}
use Rattle.sessions.specs.Cursors.{cursor, cursor_at}
use Rattle.sessions.specs.Books.{stored, world_of}
use Rattle.sessions.specs.Seeks.{hits, next_place}
use Rattle.sessions.proofs.KeptBranches.{kept_world}
use Rattle.sessions.proofs.workspace.Workspace.hit_of.Goals as goal

pub returns-in-Some-clause-hit : goal.returns-in-Some-clause-hit
returns-in-Some-clause-hit g c = λ n.
    let is = g.R.Behaves.behaviour in
    let who = c.args.who in
    let way = c.args.way in
    let s = c.args.self.now in
    let w = world_of is (stored s n) in
    let here = c.in-Some.cursor in
    let breaks : c.breaks_of-breaks.result.now ≡ breaks_at s.breaks.items who = c.breaks_of-breaks.ensures ∙ ap (λ l. breaks_at l who) c.deref.ensures.value in
    let found : cursor_at s.cursors who ≡ Some here = sym c.cursor_of-cursor.ensures ∙ c.in-Some.is in
    IfOk-weaker c.hit_from.result
    (λ hit. hit ≡ option_map (cursor here.branch) (next_place way here.place (hits (is s.chart.start.register) s.chart.value (steps_in (forest s.chart.trie) here.branch) c.breaks_of-breaks.result.now)))
    _
    (λ hit h.
    h ∙ ap (λ bs. option_map (cursor here.branch) (next_place way here.place (hits (is s.chart.start.register) s.chart.value (steps_in (forest s.chart.trie) here.branch) bs))) breaks
    ∙ sym (ap (option_and_then (hit_from way w (breaks_at w.breaks who))) found))
    c.hit_from.ensures.hit

pub returns-in-Some-clause-world : goal.returns-in-Some-clause-world
returns-in-Some-clause-world g c = λ n. kept_world g.R.Behaves.behaviour c.args.self.now c.hit_from.new.chart n c.hit_from.ensures.kept
