use Rattle.std.proofs.Common.{◌≡◌, ◌∙◌, ◌<◌, ◌+◌, ℕ, Bool, sym, ap, subst, true, length, take, slice_index_or, arith}
use Rattle.std.proofs.lemmas.List.{length-take}
use Rattle.std.proofs.lemmas.List.Elements.{All-take}
use Rattle.frames.specs.Configuration.{fits_step, history, replayed}
use Rattle.frames.specs.Recorded.{AllFit}
use Rattle.pages.specs.Breaks.{is_met}
use Rattle.sessions.specs.Seeks.{next_place, no_events, places_with}
use Rattle.sessions.specs.Walks.{is_any_met_by_events}
use Rattle.sessions.proofs.Runs.{events_report, events_count, steps_report, steps_count}
use Rattle.sessions.proofs.seek.along_run.Goals as goal

pub along_steps-requires-clause-fits : goal.along_steps-requires-clause-fits
along_steps-requires-clause-fits g c =
    let run = c.args.run.now in
    let b = g.R.Behaves.behaviour run.entry.register in
    let copied : c.in_ok-config.config ≡ run.entry = c.in_ok-config.ensures ∙ c.entry.ensures.entry in
    let steps : c.front-steps.result.now ≡ take c.args.count run.steps = c.front-steps.ensures ∙ ap (take c.args.count) c.steps.ensures.steps in
    subst (λ d. AllFit (g.R.Behaves.behaviour d.register) c.front-steps.result.now) (sym copied)
    (subst (AllFit b) (sym steps) (All-take (λ s. fits_step b s ≡ true) c.args.count run.steps c.steps.ensures.kept.fits))

pub returns-then-any_on_bit : goal.returns-then-any_on_bit
returns-then-any_on_bit g c = λ test reports start.
    let is = g.R.Behaves.behaviour in
    let run = c.args.run.now in
    let breaks = c.args.search.now.breaks.now in
    let place = c.args.progress.place in
    let copied : c.in_ok-config.config ≡ run.entry = c.in_ok-config.ensures ∙ c.entry.ensures.entry in
    let steps : c.front-steps.result.now ≡ take c.args.count run.steps = c.front-steps.ensures ∙ ap (take c.args.count) c.steps.ensures.steps in
    let all : (test : ℕ → Bool)
    → ((i : ℕ) → i < length (take c.args.count run.steps) → test ((place + 1) + i) ≡ is_met breaks (slice_index_or (history (is run.entry.register) run.entry (take c.args.count run.steps)) i no_events)
    (replayed (is run.entry.register) run.entry (take (i + 1) (take c.args.count run.steps))).memory)
    → c.args.progress.found ≡ next_place c.args.search.now.way c.args.search.now.from (places_with test (place + 1))
    → c.along_steps.result ≡ next_place c.args.search.now.way c.args.search.now.from (places_with test ((place + length (take c.args.count run.steps)) + 1)) =
    subst (λ xs. (test : ℕ → Bool)
    → ((i : ℕ) → i < length xs → test ((place + 1) + i) ≡ is_met breaks (slice_index_or (history (is run.entry.register) run.entry xs) i no_events)
    (replayed (is run.entry.register) run.entry (take (i + 1) xs)).memory)
    → c.args.progress.found ≡ next_place c.args.search.now.way c.args.search.now.from (places_with test (place + 1))
    → c.along_steps.result ≡ next_place c.args.search.now.way c.args.search.now.from (places_with test ((place + length xs) + 1))) steps
    (subst (λ d. (test : ℕ → Bool)
    → ((i : ℕ) → i < length c.front-steps.result.now → test ((place + 1) + i) ≡ is_met breaks (slice_index_or (history (is d.register) d c.front-steps.result.now) i no_events)
    (replayed (is d.register) d (take (i + 1) c.front-steps.result.now)).memory)
    → c.args.progress.found ≡ next_place c.args.search.now.way c.args.search.now.from (places_with test (place + 1))
    → c.along_steps.result ≡ next_place c.args.search.now.way c.args.search.now.from (places_with test ((place + length c.front-steps.result.now) + 1))) copied
    c.along_steps.ensures) in
    subst (λ n. c.along_steps.result ≡ next_place c.args.search.now.way c.args.search.now.from (places_with test ((place + n) + 1))) (steps_count is breaks test place run c.args.count reports)
    (all test (steps_report is breaks test place run c.args.count reports) start)

pub returns : goal.returns
returns g c = λ test reports start.
    let is = g.R.Behaves.behaviour in
    let run = c.args.run.now in
    let breaks = c.args.search.now.breaks.now in
    let place = c.args.progress.place in
    let events : c.front-events.result ≡ take c.args.count run.events = c.front-events.ensures ∙ ap (take c.args.count) c.events.ensures.events in
    let all : (test : ℕ → Bool)
    → ((i : ℕ) → i < length (take c.args.count run.events) → test ((place + 1) + i) ≡ is_any_met_by_events breaks (slice_index_or (take c.args.count run.events) i no_events))
    → c.args.progress.found ≡ next_place c.args.search.now.way c.args.search.now.from (places_with test (place + 1))
    → c.along_events.result ≡ next_place c.args.search.now.way c.args.search.now.from (places_with test ((place + length (take c.args.count run.events)) + 1)) =
    subst (λ es. (test : ℕ → Bool)
    → ((i : ℕ) → i < length es → test ((place + 1) + i) ≡ is_any_met_by_events breaks (slice_index_or es i no_events))
    → c.args.progress.found ≡ next_place c.args.search.now.way c.args.search.now.from (places_with test (place + 1))
    → c.along_events.result ≡ next_place c.args.search.now.way c.args.search.now.from (places_with test ((place + length es) + 1))) events c.along_events.ensures in
    subst (λ n. c.along_events.result ≡ next_place c.args.search.now.way c.args.search.now.from (places_with test ((place + n) + 1))) (events_count is breaks test place run c.args.count reports c.events.ensures.kept)
    (all test (events_report is breaks test place run c.args.count reports c.events.ensures.kept (sym c.any_on_bit.ensures ∙ c.if-any_on_bit.false)) start)

pub along_steps-requires-clause-room : goal.along_steps-requires-clause-room
along_steps-requires-clause-room g c =
    omega (arith, ap length c.front-steps.ensures, length-take c.args.count c.steps.result.now, c.requires)

pub along_events-requires : goal.along_events-requires
along_events-requires g c =
    omega (arith, ap length c.front-events.ensures, length-take c.args.count c.events.result, c.requires)
