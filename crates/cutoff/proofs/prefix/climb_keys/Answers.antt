use Rattle.std.proofs.Common.{◌≡◌, ◌++◌, ◌∷◌, [], ℕ, true, None, length, reverse, inl, inr, sym, ap, subst, ◌∙◌, arith, append_assoc, true≢false}
use Rattle.std.proofs.lemmas.List.{length-append, reverse-append}
use Rattle.schedule_trie.specs.Trie.{has, keys_in}
use Rattle.schedule_trie.specs.Climbs.{keys_to, HasClimbedTo}
use Rattle.schedule_trie.proofs.climbs.Climbs.{IsStepUp, step_up}
use Rattle.cutoff.proofs.Climbs.{past_all, step_up_shorter}
use Rattle.cutoff.proofs.Prefixes.{climb_key_differs}
use Rattle.branch_terms.proofs.Lists.{option_eq-true}
use Rattle.cutoff.proofs.Keys.{path_once, has_unless_last}
use Rattle.cutoff.proofs.prefix.climb_keys.Goals as goal
use Rattle.cutoff.proofs.prefix.climb_keys.Given.{Over}

pub loop-preserved : goal.loop-preserved
loop-preserved g c =
    let trie = c.args.trie.now in
    let was = c.loop.invariant in
    let step : (i : ℕ) → HasClimbedTo (keys_in trie.branches i) c.args.last → IsStepUp (keys_in trie.branches i) c.in-Some.key c.above-at.result =
    λ i h. step_up (keys_in trie.branches i) c.in-Some.key c.above-at.result (path_once trie c.requires.cut i)
    (subst (HasClimbedTo (keys_in trie.branches i)) c.in-Some.is (was.reached i h)) (λ front back e. c.above-at.ensures.each i front back e) in
    record {
      reached = λ i h. (step i h).reached;
      path = λ i h.
          let keys = keys_in trie.branches i in
          was.path i h ∙ ap (λ o. keys_to keys o ++ reverse c.loop.keys.items) c.in-Some.is ∙ ap (λ l. l ++ reverse c.loop.keys.items) (step i h).is
          ∙ append_assoc (keys_to keys c.above-at.result) (c.in-Some.key ∷ []) (reverse c.loop.keys.items)
          ∙ ap (λ l. keys_to keys c.above-at.result ++ l) (sym (ap reverse c.in_ok-push.ensures.items ∙ reverse-append c.loop.keys.items (c.in-Some.key ∷ [])));
      ahead = λ i f h e there.
          let keys = keys_in trie.branches i in
          let on = subst (λ l. has f l ≡ true) (ap (keys_to keys) c.in-Some.is ∙ (step i h).is) (was.ahead i f h e there) in
          has_unless_last f c.in-Some.key (keys_to keys c.above-at.result) on (climb_key_differs f c.in-Some.key c.loop.at c.args.stop e c.in-Some.is (sym c.if-eq.ensures));
      more = let grown = ap length c.in_ok-push.ensures.items ∙ length-append c.loop.keys.items (c.in-Some.key ∷ []) in let old = was.more in omega (arith, grown, old);
      short = λ i h.
          let keys = keys_in trie.branches i in
          let up = step_up_shorter keys c.in-Some.key c.above-at.result (step i h) in
          let at = ap (λ o. length (keys_to keys o)) c.in-Some.is in
          let old = was.short i h in
          omega (arith, up, at, old);
    }

-- after as many steps as there are cells, the climb is above the first segment
past : (g : Over) (c : goal.After-loop g) → c.loop.at ≡ None
past g c =
    let trie = c.args.trie.now in
    let first = c.requires.there in
    past_all (keys_in trie.branches first.0) c.args.last c.loop.at c.loop.counter c.made-end.result first.1 (c.made-end.ensures.few first.0) (c.loop.invariant.reached first.0 first.1)
    (c.loop.invariant.short first.0 first.1) c.loop-test.false

pub returns-after-loop-clause-following : goal.returns-after-loop-clause-following
returns-after-loop-clause-following g c = (inr (past g c), λ i h. (c.loop.invariant.reached i h, c.loop.invariant.path i h))

pub returns-after-loop-clause-stops : goal.returns-after-loop-clause-stops
returns-after-loop-clause-stops g c = λ i f h e there.
    absurd (true≢false (sym (subst (λ o. has f (keys_to (keys_in c.args.trie.now.branches i) o) ≡ true) (past g c) (c.loop.invariant.ahead i f h e there))))

pub returns-then-eq-clause-following : goal.returns-then-eq-clause-following
returns-then-eq-clause-following g c =
    (inl (option_eq-true c.loop.at c.args.stop (sym c.if-eq.ensures)), λ i h. (c.loop.invariant.reached i h, c.loop.invariant.path i h))
