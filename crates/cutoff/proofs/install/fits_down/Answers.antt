use Rattle.std.proofs.Common.{refl, sym, subst, ◌∙◌, true≢false}
use Rattle.frames.specs.Recorded.{without_register}
use Rattle.schedule_trie.specs.Trie.{keys_in}
use Rattle.schedule_trie.specs.Climbs.{keys_to}
use Rattle.cutoff.specs.Links.{IsLinked}
use Rattle.cutoff.specs.Plans.{FitsDownTo}
use Rattle.cutoff.specs.Prefixes.{RunsDown}
use Rattle.cutoff.proofs.Climbs.{above_step, fits_whole, fits_parts, number_linked}
use Rattle.cutoff.proofs.Prefixes.{runs_fit}
use Rattle.cutoff.proofs.Installed.{register_and_steps}
use Rattle.cutoff.proofs.install.fits_down.Goals as goal

pub runs_lead_to-requires : goal.runs_lead_to-requires
runs_lead_to-requires g c =
    let live = c.requires.cut.live c.args.key c.requires.there in
    record {
      linked = c.requires.linked;
      cut = c.requires.cut;
      fresh = c.requires.fresh;
      reached = (
        live.0,
        (above_step g.R.PartialEq.eq g.met.R.PartialEq.laws g.R.Behaves.behaviour g.met.R.Register.alike c.args.trie.now c.requires.cut c.args.start.now c.args.key c.above-above.result
            c.above-above.ensures.each live.0 live.1).reached,
      );
    }

pub returns-then-not-has_steps-clause-fits : goal.returns-then-not-has_steps-clause-fits
returns-then-not-has_steps-clause-fits g c = λ i h. (
  (λ e. absurd (true≢false (sym e))),
  (λ f.
      let steps = (register_and_steps g.R.PartialEq.eq (g.R.Behaves.behaviour c.args.start.now.register) c.args.trie.now c.args.key c.args.run.now c.args.start.now (keys_in c.args.trie.now.branches i) f).1 in
      absurd (true≢false (sym (c.has_steps.ensures.1 (c.steps.ensures.steps ∙ steps)) ∙ c.if-not-has_steps.true))),
)

pub returns-then-not-runs_lead_to-clause-fits : goal.returns-then-not-runs_lead_to-clause-fits
returns-then-not-runs_lead_to-clause-fits g c = λ i h. (
  (λ e. absurd (true≢false (sym e))),
  (λ f.
      let E = g.R.PartialEq.eq in
      let trie = c.args.trie.now in
      let parts = fits_parts E g.met.R.PartialEq.laws g.R.Behaves.behaviour g.met.R.Register.alike trie c.requires.cut c.args.start.now c.args.key c.above-above.result
      c.above-above.ensures.each c.args.run.now i h f in
      let step = above_step E g.met.R.PartialEq.laws g.R.Behaves.behaviour g.met.R.Register.alike trie c.requires.cut c.args.start.now c.args.key c.above-above.result
      c.above-above.ensures.each i h in
      let down = subst (FitsDownTo E (g.R.Behaves.behaviour c.args.start.now.register) trie c.args.start.now (keys_to (keys_in trie.branches i) c.above-above.result)) (sym c.entry.ensures.entry) parts.1 in
      absurd (true≢false (sym ((c.runs_lead_to.ensures i step.reached).1 down) ∙ c.if-not-runs_lead_to.true))),
)

pub returns-clause-fits : goal.returns-clause-fits
returns-clause-fits g c = λ i h. (
  (λ e.
      let E = g.R.PartialEq.eq in
      let trie = c.args.trie.now in
      let step = above_step E g.met.R.PartialEq.laws g.R.Behaves.behaviour g.met.R.Register.alike trie c.requires.cut c.args.start.now c.args.key c.above-above.result
      c.above-above.ensures.each i h in
      let down = subst (FitsDownTo E (g.R.Behaves.behaviour c.args.start.now.register) trie c.args.start.now (keys_to (keys_in trie.branches i) c.above-above.result)) c.entry.ensures.entry
      (runs_fit E g.met.R.PartialEq.laws g.R.Behaves.behaviour g.met.R.Register.alike trie (g.R.Behaves.behaviour c.args.start.now.register) c.args.start.now
      (keys_to (keys_in trie.branches i) c.above-above.result) c.entry.result.now ((c.runs_lead_to.ensures i step.reached).0 c.if-not-runs_lead_to.false)) in
      fits_whole E g.met.R.PartialEq.laws g.R.Behaves.behaviour g.met.R.Register.alike trie c.requires.cut c.args.start.now c.args.key c.above-above.result
      c.above-above.ensures.each c.args.run.now i h (sym c.steps.ensures.steps ∙ c.has_steps.ensures.0 c.if-not-has_steps.false) down),
  (λ f. refl),
)

pub returns-clause-moved : goal.returns-clause-moved
returns-clause-moved g c = λ e next linked.
    let E = g.R.PartialEq.eq in
    let trie = c.args.trie.now in
    let live = c.requires.cut.live c.args.key c.requires.there in
    let step = above_step E g.met.R.PartialEq.laws g.R.Behaves.behaviour g.met.R.Register.alike trie c.requires.cut c.args.start.now c.args.key c.above-above.result
    c.above-above.ensures.each live.0 live.1 in
    let down = subst (FitsDownTo E (g.R.Behaves.behaviour c.args.start.now.register) trie c.args.start.now (keys_to (keys_in trie.branches live.0) c.above-above.result)) c.entry.ensures.entry
    (runs_fit E g.met.R.PartialEq.laws g.R.Behaves.behaviour g.met.R.Register.alike trie (g.R.Behaves.behaviour c.args.start.now.register) c.args.start.now
    (keys_to (keys_in trie.branches live.0) c.above-above.result) c.entry.result.now ((c.runs_lead_to.ensures live.0 step.reached).0 c.if-not-runs_lead_to.false)) in
    subst (λ n. IsLinked E c.args.start.now.register next n (without_register c.args.run.now.entry) trie) (sym c.entry_below-number.ensures.number)
    (number_linked E g.met.R.PartialEq.laws g.R.Behaves.behaviour g.met.R.Register.alike trie c.args.start.now c.args.run.now.entry (keys_in trie.branches live.0) c.above-above.result next _
    step.reached (sym c.stored_at.ensures) c.entry_below-number.ensures.kept down linked)

pub returns-clause-runs : goal.returns-clause-runs
returns-clause-runs g c = λ e i h.
    let E = g.R.PartialEq.eq in
    let b = g.R.Behaves.behaviour c.args.start.now.register in
    let trie = c.args.trie.now in
    let above = keys_to (keys_in trie.branches i) c.above-above.result in
    let step = above_step E g.met.R.PartialEq.laws g.R.Behaves.behaviour g.met.R.Register.alike trie c.requires.cut c.args.start.now c.args.key c.above-above.result
    c.above-above.ensures.each i h in (
      above,
      step.is,
      subst (RunsDown E g.R.Behaves.behaviour trie b c.args.start.now above) c.entry.ensures.entry ((c.runs_lead_to.ensures i step.reached).0 c.if-not-runs_lead_to.false),
    )
