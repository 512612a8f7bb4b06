use Rattle.std.proofs.Common.{◌≡◌, ℕ, true, Some, None, slice_get, length, refl, sym, ap, subst, ◌∙◌, true≢false, arith}
use Rattle.std.specs.Option.{option_copied}
use Rattle.frames.specs.Recorded.{without_register}
use Rattle.schedule_trie.specs.Trie.{keys_in, note_of, segment_at}
use Rattle.schedule_trie.specs.Climbs.{keys_to, HasClimbedTo}
use Rattle.schedule_trie.proofs.climbs.Climbs.{IsStepUp, step_up}
use Rattle.cutoff.specs.Fitting.{steps_at}
use Rattle.cutoff.specs.Links.{run_checked}
use Rattle.cutoff.specs.Plans.{FitsDownTo}
use Rattle.cutoff.proofs.Climbs.{climb_missing, link_same, linked_entry, climb_ends, climb_above, past_all, step_up_shorter}
use Rattle.cutoff.specs.Prefixes.{AreFresh, RunsDown}
use Rattle.cutoff.proofs.Fits.{stored-from_stored_in}
use Rattle.cutoff.proofs.Prefixes.{runs_to_next, runs_to_equal}
use Rattle.cutoff.proofs.Keys.{path_once}
use Rattle.cutoff.proofs.climb.runs_lead_to.Goals as goal
use Rattle.cutoff.proofs.climb.runs_lead_to.Goals.{else-loop-test, then-loop-test+in_default}

pub returns-in_default-note : goal.returns-in_default-note
returns-in_default-note g c = λ i h. (
  (λ e. absurd (true≢false (sym e))),
  (λ d.
      absurd (climb_missing g.R.PartialEq.eq (g.R.Behaves.behaviour c.args.start.now.register) c.args.trie.now c.in-Some.key c.loop.entry.now c.args.start.now (keys_in c.args.trie.now.branches i) c.loop.at
      c.in-Some.is (c.loop.invariant.reached i h) (sym c.step_up-above.ensures.note ∙ ap option_copied c.in_default-note.is) (c.loop.invariant.down i h d))),
)

pub ends-requires : goal.ends-requires
ends-requires g c = record {
  linked = λ a link id.
      let E = g.R.PartialEq.eq in
      let h = c.args.start.now.register in
      let links = c.requires.linked in
      let came = c.loop.invariant.reached_exit links.0 links.1 a link in
      link_same E g.met.R.PartialEq.laws (g.R.Behaves.behaviour h) c.in-Some-note.stored.now c.loop.entry.now h links.1.exits (steps_at c.args.trie.now c.in-Some.key)
      (stored-from_stored_in E h links.1.exits c.args.trie.now c.in-Some.key c.in-Some-note.stored.now (links.1.each c.in-Some.key) (sym c.step_up-above.ensures.note ∙ ap option_copied c.in-Some-note.is)) a id came.0 came.1;
}

pub returns-then-not-ends : goal.returns-then-not-ends
returns-then-not-ends g c = λ i h. (
  (λ e. absurd (true≢false (sym e))),
  (λ d.
      let E = g.R.PartialEq.eq in
      let b = g.R.Behaves.behaviour c.args.start.now.register in
      let keys = keys_in c.args.trie.now.branches i in
      let here = subst (λ o. FitsDownTo E b c.args.trie.now c.args.start.now (keys_to keys o) c.loop.entry.now) c.in-Some.is (c.loop.invariant.down i h d) in
      let there = subst (HasClimbedTo keys) c.in-Some.is (c.loop.invariant.reached i h) in
      let same = climb_ends E g.met.R.PartialEq.laws g.R.Behaves.behaviour g.met.R.Register.alike c.args.trie.now c.args.start.now c.loop.entry.now keys c.in-Some.key c.in-Some-note.stored.now
      (sym c.step_up-above.ensures.note ∙ ap option_copied c.in-Some-note.is) c.entry-begun.ensures.kept there here in
      absurd (true≢false (sym (c.ends.ensures.1 same) ∙ c.if-not-ends.true))),
)

pub loop-preserved : goal.loop-preserved
loop-preserved g c =
    let E = g.R.PartialEq.eq in
    let b = g.R.Behaves.behaviour c.args.start.now.register in
    let trie = c.args.trie.now in
    let start = c.args.start.now in
    let s = c.in-Some-note.stored.now in
    let noted : note_of (segment_at trie.segments c.in-Some.key) ≡ Some s = sym c.step_up-above.ensures.note ∙ ap option_copied c.in-Some-note.is in
    let was = c.loop.invariant in
    let begun = c.entry-begun.ensures.entry in
    let step : (i : ℕ) → HasClimbedTo (keys_in trie.branches i) c.args.last → IsStepUp (keys_in trie.branches i) c.in-Some.key c.step_up-above.result.1 =
    λ i h. step_up (keys_in trie.branches i) c.in-Some.key c.step_up-above.result.1 (path_once trie c.requires.cut i)
    (subst (HasClimbedTo (keys_in trie.branches i)) c.in-Some.is (was.reached i h)) (λ front back e. c.step_up-above.ensures.each i front back e) in
    record {
      reached = λ i h. (step i h).reached;
      short = λ i h.
          let keys = keys_in trie.branches i in
          let up = step_up_shorter keys c.in-Some.key c.step_up-above.result.1 (step i h) in
          let at = ap (λ o. length (keys_to keys o)) c.in-Some.is in
          let old = was.short i h in
          omega (arith, up, at, old);
      down = λ i h d.
          let keys = keys_in trie.branches i in
          let here = subst (λ o. FitsDownTo E b trie start (keys_to keys o) c.loop.entry.now) c.in-Some.is (was.down i h d) in
          subst (FitsDownTo E b trie start (keys_to keys c.step_up-above.result.1)) (sym begun)
          (climb_above E g.met.R.PartialEq.laws g.R.Behaves.behaviour g.met.R.Register.alike trie start c.loop.entry.now keys c.in-Some.key s noted c.entry-begun.ensures.kept
          c.step_up-above.result.1 (step i h) here);
      runs = λ i h d.
          let keys = keys_in trie.branches i in
          let links = c.requires.linked.1 in
          let covers = (stored-from_stored_in E start.register links.exits trie c.in-Some.key s (links.each c.in-Some.key) noted).covers in
          let to = runs_to_next E g.met.R.PartialEq.laws g.R.Behaves.behaviour g.met.R.Register.alike trie c.in-Some.key s noted c.entry-begun.ensures.kept covers start keys
          c.step_up-above.result.1 (step i h) (subst (RunsDown E g.R.Behaves.behaviour trie b start (keys_to keys c.step_up-above.result.1)) begun d) in
          was.runs i h (subst (λ o. RunsDown E g.R.Behaves.behaviour trie b start (keys_to keys o) c.loop.entry.now) (sym c.in-Some.is)
          (runs_to_equal E g.met.R.PartialEq.laws g.R.Behaves.behaviour g.met.R.Register.alike trie c.in-Some.key s noted c.entry-begun.ensures.kept covers start keys
          c.step_up-above.result.1 (step i h) c.loop.entry.now (c.ends.ensures.0 c.if-not-ends.false) to));
      reached_exit = λ next links a link.
          subst (λ e. (slice_get links.exits a ≡ Some (without_register e)) × (E e.register start.register ≡ true)) (sym begun)
          (linked_entry E start.register links.exits (steps_at trie c.in-Some.key) s
          (stored-from_stored_in E start.register links.exits trie c.in-Some.key s (links.each c.in-Some.key) noted) a (sym c.link-link.ensures ∙ link));
    }

-- stored runs are known to fit down to a fresh run
pub returns-then-is_from : goal.returns-then-is_from
returns-then-is_from g c = λ i h. (
  (λ e.
      let E = g.R.PartialEq.eq in
      let b = g.R.Behaves.behaviour c.args.start.now.register in
      let trie = c.args.trie.now in
      let start = c.args.start.now in
      let keys = keys_in trie.branches i in
      let s = c.in-Some-note.stored.now in
      let noted : note_of (segment_at trie.segments c.in-Some.key) ≡ Some s = sym c.step_up-above.ensures.note ∙ ap option_copied c.in-Some-note.is in
      let links = c.requires.linked.1 in
      let covers = (stored-from_stored_in E start.register links.exits trie c.in-Some.key s (links.each c.in-Some.key) noted).covers in
      let there = subst (HasClimbedTo keys) c.in-Some.is (c.loop.invariant.reached i h) in
      let step = step_up keys c.in-Some.key c.step_up-above.result.1 (path_once trie c.requires.cut i) there (λ front back e. c.step_up-above.ensures.each i front back e) in
      let late = c.is_from.ensures.0 c.if-is_from.true in
      let number : run_checked (note_of (segment_at trie.segments c.in-Some.key)) ≡ Some late.0 = ap run_checked noted ∙ sym c.checked.ensures ∙ late.2 in
      let marked = subst (AreFresh E g.R.Behaves.behaviour trie start) late.3 c.requires.fresh c.in-Some.key late.0 number late.4 in
      c.loop.invariant.runs i h (subst (λ o. RunsDown E g.R.Behaves.behaviour trie b start (keys_to keys o) c.loop.entry.now) (sym c.in-Some.is)
      (runs_to_equal E g.met.R.PartialEq.laws g.R.Behaves.behaviour g.met.R.Register.alike trie c.in-Some.key s noted c.entry-begun.ensures.kept covers start keys
      c.step_up-above.result.1 step c.loop.entry.now (c.ends.ensures.0 c.if-not-ends.false) (marked i there)))),
  (λ d. refl),
)

pub returns : goal.returns
returns g c = λ i h.
    let E = g.R.PartialEq.eq in
    let b = g.R.Behaves.behaviour c.args.start.now.register in
    let trie = c.args.trie.now in
    let keys = keys_in trie.branches i in
    let was = c.loop.invariant in
    let first = c.requires.reached in
    let end : c.loop.at ≡ None =
    elim c.loop-test.branch [
      | else-loop-test w ↦
          past_all (keys_in trie.branches first.0) c.args.last c.loop.at c.loop.counter c.made-end.result first.1 (c.made-end.ensures.few first.0) (was.reached first.0 first.1)
          (was.short first.0 first.1) w.loop-test.false
      | then-loop-test+in_default w ↦ w.in_default.is
    ] in (
      (λ e. was.runs i h (subst (λ o. RunsDown E g.R.Behaves.behaviour trie b c.args.start.now (keys_to keys o) c.loop.entry.now) (sym end) (c.eq.ensures.same.0 e))),
      (λ d. c.eq.ensures.same.1 (subst (λ o. FitsDownTo E b trie c.args.start.now (keys_to keys o) c.loop.entry.now) end (was.down i h d))),
    )
