use Rattle.std.proofs.Common.{◌≡◌, ℕ, [], ◌∷◌, true, sym, ap, subst, ◌∙◌}
use Rattle.std.specs.Option.{option_copied}
use Rattle.schedule_trie.specs.Trie.{has, keys_in}
use Rattle.schedule_trie.specs.Climbs.{keys_to, HasClimbedTo}
use Rattle.schedule_trie.proofs.climbs.Climbs.{IsStepUp, step_up}
use Rattle.schedule_trie.proofs.lists.NoRepeats.{has-left}
use Rattle.cutoff.proofs.Checks.{none_checked, more_checked}
use Rattle.cutoff.proofs.Keys.{path_once, up_to_itself}
use Rattle.cutoff.proofs.check.check_above.Goals as goal

pub loop-init : goal.loop-init
loop-init g c =
    let trie = c.args.trie.now in
    let step : (i : ℕ) → has c.args.key (keys_in trie.branches i) ≡ true → IsStepUp (keys_in trie.branches i) c.args.key c.above-at.result =
    λ i h. step_up (keys_in trie.branches i) c.args.key c.above-at.result (path_once trie c.requires i) h (λ front back e. c.above-at.ensures.each i front back e) in
    record {
      checked = none_checked trie c.args.number c.args.key;
      reached = λ i h. (step i h).reached;
      way = λ i k h on. ap (has k) (step i h).is ∙ has-left k (keys_to (keys_in trie.branches i) c.above-at.result) (c.args.key ∷ []) on;
    }

pub loop-preserved : goal.loop-preserved
loop-preserved g c =
    let trie = c.args.trie.now in
    let was = c.loop.invariant in
    let at : (i : ℕ) → has c.args.key (keys_in trie.branches i) ≡ true → has c.in-Some.key (keys_in trie.branches i) ≡ true =
    λ i h. subst (HasClimbedTo (keys_in trie.branches i)) c.in-Some.is (was.reached i h) in
    let step : (i : ℕ) → has c.args.key (keys_in trie.branches i) ≡ true → IsStepUp (keys_in trie.branches i) c.in-Some.key c.step_up-above.result.1 =
    λ i h. step_up (keys_in trie.branches i) c.in-Some.key c.step_up-above.result.1 (path_once trie c.requires i) (at i h)
    (λ front back e. c.step_up-above.ensures.each i front back (ap (λ ss. keys_in ss i) was.checked.branches ∙ e)) in
    record {
      checked = more_checked trie c.loop.trie c.set_note.new.self c.args.number c.args.key c.in-Some.key c.in-Some-note.stored.now c.in-Ok.again was.checked
          (sym c.step_up-above.ensures.note ∙ ap option_copied c.in-Some-note.is) c.in-Ok.ensures.run c.in-Ok.ensures.id c.in-Ok.ensures.link c.in-Ok.ensures.checked
          c.set_note.ensures (λ i h. was.way i c.in-Some.key h (subst (λ o. has c.in-Some.key (keys_to (keys_in trie.branches i) o) ≡ true) (sym c.in-Some.is) (up_to_itself (keys_in trie.branches i) c.in-Some.key (at i h))));
      reached = λ i h. (step i h).reached;
      way = λ i k h on.
          was.way i k h (subst (λ o. has k (keys_to (keys_in trie.branches i) o) ≡ true) (sym c.in-Some.is)
          (ap (has k) (step i h).is ∙ has-left k (keys_to (keys_in trie.branches i) c.step_up-above.result.1) (c.in-Some.key ∷ []) on));
    }
