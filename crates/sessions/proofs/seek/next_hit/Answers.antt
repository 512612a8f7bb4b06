use Rattle.std.proofs.Common.{◌≡◌, ◌∙◌, ◌+◌, ℕ, Bool, sym, ap, subst, map, length}
use Rattle.std.proofs.lemmas.Result.{IfOk-weaker}
use Rattle.schedule_trie.specs.Trie.{forest}
use Rattle.cutoff.specs.Fitting.{counted, part_of}
use Rattle.pages.specs.Breaks.{is_met}
use Rattle.views.specs.Looks.{steps_in}
use Rattle.sessions.specs.Seeks.{next_place, no_events, places_with, is_hit}
use Rattle.sessions.specs.Bounds.{FitsU32}
use Rattle.sessions.specs.Walks.{ReportsParts}
use Rattle.sessions.proofs.NextHits.{next_is_hit}
use Rattle.sessions.proofs.seek.next_hit.Goals as goal

-- the place found is the next hit, from which both clauses follow
place_is_next : goal.returns-clause-hit
place_is_next g c =
    let is = g.R.Behaves.behaviour in
    let old = c.args.chart.now in
    let b = is old.start.register in
    let breaks = c.args.search.now.breaks.now in
    let steps = steps_in (forest old.trie) c.args.branch.now in
    let kept = c.in_ok-runs.ensures.kept in
    let memory : c.in_ok-first.first.memory ≡ b.initial old.value =
    ap (λ d. d.memory) (c.in_ok-first.ensures ∙ c.initial.ensures.initial) ∙ λ i. (is (kept.start i).register).initial (kept.value i) in
    let zero : is_hit b old.value steps breaks 0 ≡ is_met breaks no_events c.in_ok-first.first.memory = ap (is_met breaks no_events) (sym memory) in
    let reports : ReportsParts is breaks (is_hit b old.value steps breaks) 0 (map part_of c.as_slice.result.now) =
    subst (ReportsParts is breaks (is_hit b old.value steps breaks) 0) (sym c.as_slice.ensures) (c.in_ok-runs.ensures.reports breaks) in
    let long : counted (map part_of c.as_slice.result.now) ≡ length steps = ap counted c.as_slice.ensures ∙ c.in_ok-runs.ensures.counts in
    IfOk-weaker c.along_runs.result
    (λ all. (test : ℕ → Bool) → test 0 ≡ is_met breaks no_events c.in_ok-first.first.memory → ReportsParts is breaks test 0 (map part_of c.as_slice.result.now)
    → all ≡ next_place c.args.search.now.way c.args.search.now.from (places_with test (counted (map part_of c.as_slice.result.now) + 1)))
    _
    (λ all h. h (is_hit b old.value steps breaks) zero reports ∙ ap (λ n. next_place c.args.search.now.way c.args.search.now.from (places_with (is_hit b old.value steps breaks) (n + 1))) long)
    c.along_runs.ensures

pub returns-clause-hit : goal.returns-clause-hit
returns-clause-hit g c = place_is_next g c

pub returns-clause-met : goal.returns-clause-met
returns-clause-met g c =
    let old = c.args.chart.now in
    let steps = steps_in (forest old.trie) c.args.branch.now in
    let test = is_hit (g.R.Behaves.behaviour old.start.register) old.value steps c.args.search.now.breaks.now in
    IfOk-weaker c.along_runs.result
    (λ place. place ≡ next_place c.args.search.now.way c.args.search.now.from (places_with test (length steps + 1)))
    _
    (λ place h. next_is_hit test c.args.search.now.from c.args.search.now.way (length steps + 1) place h)
    (place_is_next g c)

pub along_runs-requires : goal.along_runs-requires
along_runs-requires g c = record { room = subst (λ rs. FitsU32 (counted rs)) (sym c.as_slice.ensures) c.in_ok-runs.ensures.room }
