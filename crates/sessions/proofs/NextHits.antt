-- The place that a seek finds is a hit, and no place that it passes on the way is one.
use Rattle.std.proofs.Common.{◌≡◌, ℕ, zero, suc, ◌+◌, ◌<◌, Bool, true, false, ◌&&◌, cond, nat_lt, [], ◌∷◌, Option, Some, None, MatchOption, IfSome, inl, inr, refl, sym, ap, subst, ◌∙◌, arith, reverse}
use Rattle.std.specs.List.{find}
use Rattle.std.specs.Option.{option_or}
use Rattle.std.proofs.lemmas.Bool.{and_parts, cases_lt, ltb-true}
use Rattle.std.proofs.lemmas.List.Folds.{find-append}
use Rattle.sessions.specs.declared.way.Way.{Way}
use Rattle.sessions.specs.declared.way.Way.TheVariants.{Forth, Back}
use Rattle.sessions.specs.Seeks.{places_with, next_place, is_ahead, IsNextHit}
use Rattle.sessions.proofs.Searches.{places_more, find_one, find_last}

left_false : (a b : Bool) → (a && b) ≡ false → b ≡ true → a ≡ false
left_false true b e f = cc
left_false false b e f = refl

module _ (test : ℕ → Bool) (from : ℕ) where
  -- o is the nearest hit below n in this direction; or it is `None`, and there is no such hit
  abbrev IsNearest : Way → ℕ → Option ℕ → Type 0
  IsNearest way n o = MatchOption o ((j : ℕ) → j < n → (test j && is_ahead way from j) ≡ false) (λ k. IsNextHit way test n from k)

  still_none : (way : Way) (n : ℕ) → (test n && is_ahead way from n) ≡ false → ((j : ℕ) → j < n → (test j && is_ahead way from j) ≡ false)
      → (j : ℕ) → j < suc n → (test j && is_ahead way from j) ≡ false
  still_none way n here below j h = elim (cases_lt j n) [
    | inl less ↦ below j less
    | inr more ↦ let same : n ≡ j = omega (arith, h, more) in subst (λ m. (test m && is_ahead way from m) ≡ false) same here
  ]

  -- the nearest hit after `from` stays the nearest when one more place is searched
  kept_forth : (n k : ℕ) → IsNextHit Forth test n from k → IsNextHit Forth test (suc n) from k
  kept_forth n k h = record {
    within = omega (arith, h.within);
    hit = h.hit;
    ahead = h.ahead;
    first = λ j within ahead before. h.first j (omega (arith, h.within, ltb-true j k before)) ahead before;
  }

  forth_one_more_if_none : (n : ℕ) (t : Bool) → (test n && nat_lt from n) ≡ t → ((j : ℕ) → j < n → (test j && nat_lt from j) ≡ false) → IsNearest Forth (suc n) (cond t (Some n) None)
  forth_one_more_if_none n true e none =
      let here = and_parts (test n) (nat_lt from n) e in
      record {
        within = omega arith;
        hit = here.0;
        ahead = here.1;
        first = λ j within ahead before. left_false (test j) (nat_lt from j) (none j (ltb-true j n before)) ahead;
      }
  forth_one_more_if_none n false e none = still_none Forth n e none

  forth_one_more : (n : ℕ) (o : Option ℕ) → IsNearest Forth n o → IsNearest Forth (suc n) (option_or o (cond (test n && nat_lt from n) (Some n) None))
  forth_one_more n None h = forth_one_more_if_none n (test n && nat_lt from n) refl h
  forth_one_more n (Some k) h = kept_forth n k h

  -- what `next_place` finds among the places below n is the nearest hit, forth, back, or either way
  forth : (n : ℕ) → IsNearest Forth n (next_place Forth from (places_with test n))
  forth zero = λ j h. absurd (omega (arith, h))
  forth (suc n) =
      let next : n + 1 ≡ suc n = omega arith in
      let parted : find (nat_lt from) (places_with test (suc n)) ≡ option_or (find (nat_lt from) (places_with test n)) (cond (test n && nat_lt from n) (Some n) None) =
      ap (λ m. find (nat_lt from) (places_with test m)) (sym next) ∙ ap (find (nat_lt from)) (places_more test n)
      ∙ find-append (nat_lt from) (places_with test n) (cond (test n) (n ∷ []) [])
      ∙ ap (option_or (find (nat_lt from) (places_with test n))) (find_one test (nat_lt from) n (test n)) in
      subst (IsNearest Forth (suc n)) (sym parted) (forth_one_more n (find (nat_lt from) (places_with test n)) (forth n))

  kept_back : (n : ℕ) (o : Option ℕ) → (test n && nat_lt n from) ≡ false → IsNearest Back n o → IsNearest Back (suc n) o
  kept_back n None e h = still_none Back n e h
  kept_back n (Some k) e h = record {
    within = omega (arith, h.within);
    hit = h.hit;
    ahead = h.ahead;
    first = λ j within ahead before. elim (cases_lt j n) [
      | inl less ↦ h.first j less ahead before
      | inr more ↦
          let same : n ≡ j = omega (arith, within, more) in
          let here : (test j && nat_lt j from) ≡ false = subst (λ m. (test m && nat_lt m from) ≡ false) same e in
          left_false (test j) (nat_lt j from) here ahead
    ];
  }

  back_one_more : (n : ℕ) (t : Bool) (o : Option ℕ) → (test n && nat_lt n from) ≡ t → IsNearest Back n o → IsNearest Back (suc n) (cond t (Some n) o)
  back_one_more n true o e h =
      let here = and_parts (test n) (nat_lt n from) e in
      record {
        within = omega arith;
        hit = here.0;
        ahead = here.1;
        first = λ j within ahead before. absurd (omega (arith, within, ltb-true n j before));
      }
  back_one_more n false o e h = kept_back n o e h

  back : (n : ℕ) → IsNearest Back n (next_place Back from (places_with test n))
  back zero = λ j h. absurd (omega (arith, h))
  back (suc n) =
      let p : ℕ → Bool = λ k. nat_lt k from in
      let next : n + 1 ≡ suc n = omega arith in
      let parted : find p (reverse (places_with test (suc n))) ≡ cond (test n && nat_lt n from) (Some n) (find p (reverse (places_with test n))) =
      ap (λ m. find p (reverse (places_with test m))) (sym next) ∙ ap (λ l. find p (reverse l)) (places_more test n) ∙ find_last test p (places_with test n) n (test n) in
      subst (IsNearest Back (suc n)) (sym parted) (back_one_more n (test n && nat_lt n from) (find p (reverse (places_with test n))) refl (back n))

  found : (way : Way) (n : ℕ) → IsNearest way n (next_place way from (places_with test n))
  found Forth n = forth n
  found Back n = back n

  hit_if_found : (way : Way) (n : ℕ) (o : Option ℕ) → IsNearest way n o → IfSome o (λ k. IsNextHit way test n from k)
  hit_if_found way n None h = tt
  hit_if_found way n (Some k) h = h

  -- the place that a seek finds among those below n, if any, is the nearest hit
  pub next_is_hit : (way : Way) (n : ℕ) (o : Option ℕ) → o ≡ next_place way from (places_with test n) → IfSome o (λ k. IsNextHit way test n from k)
  next_is_hit way n o e = hit_if_found way n o (subst (IsNearest way n) (sym e) (found way n))
