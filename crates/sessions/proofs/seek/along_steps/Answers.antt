use Rattle.std.proofs.Common.{◌≡◌, ◌∙◌, ◌+◌, sym, ap, subst, arith, true, length, take, get_or, slice_index_or}
use Rattle.std.proofs.lemmas.List.{get_or_default}
use Rattle.frames.specs.declared.types.Step.TheVariants.{Write}
use Rattle.frames.specs.Configuration.{events_of, fits_step, replayed, stepped}
use Rattle.frames.specs.laws.WithoutRegister.{register_kept}
use Rattle.pages.specs.Breaks.{is_met}
use Rattle.sessions.specs.Seeks.{next_place, places_with}
use Rattle.sessions.proofs.Runs.{replayed_next, events_next}
use Rattle.sessions.proofs.seek.along_steps.Goals as goal

pub step-events-requires : goal.step-events-requires
step-events-requires g c =
    let is = g.R.Behaves.behaviour in
    let first = c.args.config in
    let own : c.loop-i.config.register ≡ first.register =
    ap (λ d. d.register) c.loop-i.invariant.config ∙ register_kept (is first.register) first (take c.loop-i.i c.args.steps.now) in
    subst (λ r. fits_step (is r) (slice_index_or c.args.steps.now c.loop-i.i (Write 0 0)) ≡ true) (sym own) (c.requires.fits c.loop-i.i (Write 0 0) c.loop-i-test.true)

pub loop-i-preserved : goal.loop-i-preserved
loop-i-preserved g c =
    let is = g.R.Behaves.behaviour in
    let first = c.args.config in
    let b = is first.register in
    let steps = c.args.steps.now in
    let i = c.loop-i.i in
    let s = slice_index_or steps i (Write 0 0) in
    let place = c.args.place in
    let now = c.loop-i.config in
    let within = c.loop-i-test.true in
    let item : s ≡ get_or steps i s = get_or_default steps i (Write 0 0) s within in
    let own : is now.register ≡ b = ap (λ d. is d.register) c.loop-i.invariant.config ∙ ap is (register_kept b first (take i steps)) in
    let after : c.step-events.new.self ≡ replayed b first (take (i + 1) steps) =
    c.step-events.ensures.after ∙ ap (λ d. stepped d now s) own ∙ ap (λ d. stepped b d s) c.loop-i.invariant.config ∙ sym (replayed_next b first steps i s within item) in
    let events : c.step-events.result ≡ events_of b (replayed b first (take i steps)) s =
    c.step-events.ensures.events ∙ ap (λ d. events_of d now s) own ∙ ap (λ d. events_of b d s) c.loop-i.invariant.config in
    let here : (place + i) + 1 ≡ (place + 1) + i = omega arith in
    let next : ((place + 1) + i) + 1 ≡ (place + (i + 1)) + 1 = omega arith in
    record {
      config = after;
      found = λ test each start.
          let tested : test ((place + 1) + i) ≡ c.is_met-hit.result =
          each i within ∙ ap (λ es. is_met c.args.search.now.breaks.now es (replayed b first (take (i + 1) steps)).memory) (events_next b first steps i s within item ∙ sym events)
          ∙ ap (λ d. is_met c.args.search.now.breaks.now c.step-events.result d.memory) (sym after) ∙ sym c.is_met-hit.ensures in
          subst (λ n. c.with_place-found.result ≡ next_place c.args.search.now.way c.args.search.now.from (places_with test n)) next
          (c.with_place-found.ensures test tested
          (subst (λ n. c.loop-i.found ≡ next_place c.args.search.now.way c.args.search.now.from (places_with test n)) here (c.loop-i.invariant.found test each start)));
    }

pub returns : goal.returns
returns g c = λ test each start.
    let full : c.loop-i.i ≡ length c.args.steps.now = omega arith in
    subst (λ n. c.loop-i.found ≡ next_place c.args.search.now.way c.args.search.now.from (places_with test ((c.args.place + n) + 1))) full (c.loop-i.invariant.found test each start)
