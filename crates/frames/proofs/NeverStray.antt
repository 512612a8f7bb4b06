-- No returned read of an atomic register is stray: the read's number is that of the last write
-- before it, or of a write that it overlaps.
use Rattle.std.proofs.Common.{◌≡◌, ℕ, zero, suc, ◌+◌, ◌<◌, ◌≤◌, ◌-◌, Bool, true, false, ◌||◌, cond, List, [], ◌∷◌, ◌++◌, length, drop, Option, Some, None, inl, inr, refl, sym, ap, subst, ◌∙◌, arith, get_or, eq-eqb, length-append}
use Rattle.std.specs.Prelude.{◌==◌, if◌then◌else◌}
use Rattle.std.specs.List.{list_any}
use Rattle.std.specs.Option.{unwrap_or}
use Rattle.std.proofs.lemmas.Bool.{cases_eq}
use Rattle.std.proofs.lemmas.List.{drop-append-le, get_or-drop, get_or_append_left, get_or_at, length-drop}
use Rattle.std.proofs.lemmas.List.Folds.{list_any-append, list_any_at}
use Rattle.schedule_steps.specs.declared.types.Op.TheVariants as op
use Rattle.frames.specs.declared.types.Event.{Event}
use Rattle.frames.specs.declared.types.Event.TheVariants.{Invoke, Got, Wrote}
use Rattle.frames.specs.declared.verdict.Reading.{Reading}
use Rattle.frames.specs.declared.verdict.Verdict.TheVariants.{Fresh, Overlap, Stray}
use Rattle.frames.specs.Behaviour.{Behaviour}
use Rattle.frames.specs.correctness.Verdicts.{Known, initially, after, returning, invoked_now, last_read, reading, overlaps}
use Rattle.frames.specs.correctness.Regularity.{in_progress, OnReturn, EachRead, NotStray, NeverStray, IsRegular, IsAtomic, by_number, IsNumber, Numbered}
use Rattle.frames.proofs.KnownAndSeen.{found_last, is_value_is_among}

-- a read's record is right: by its invocation no more writes had returned than by now, and what was
-- fresh was the value of the last of them, or the initial value if none had
record ReadingIsRight (value : ℕ) (returned : List ℕ) (r : Reading) : Type 0 where
  since : r.since ≤ length returned
  fresh : get_or (value ∷ returned) r.since value ≡ r.fresh

-- what is known is right, whichever events have been recorded
record KnownIsRight (value : ℕ) (k : Known) : Type 0 where
  fresh : get_or (value ∷ k.returned) (length k.returned) value ≡ k.fresh
  reads : (p : ℕ) (r : Reading) → last_read p k ≡ Some r → ReadingIsRight value k.returned r

reading_right_now : (value p : ℕ) (k : Known) → KnownIsRight value k → ReadingIsRight value k.returned (invoked_now p k)
reading_right_now value p k h = record { since = omega arith; fresh = h.fresh }

reading_right : (value p : ℕ) (k : Known) → KnownIsRight value k → ReadingIsRight value k.returned (reading p k)
reading_right value p k h = go (last_read p k) refl
  where
    go : (o : Option Reading) → last_read p k ≡ o → ReadingIsRight value k.returned (unwrap_or o (invoked_now p k))
    go None e = reading_right_now value p k h
    go (Some r) e = h.reads p r e

-- a read's record is still right after one more write has returned
reading_still_right : (value v : ℕ) (returned : List ℕ) (r : Reading) → ReadingIsRight value returned r → ReadingIsRight value (returned ++ v ∷ []) r
reading_still_right value v returned r h =
    let since : r.since ≤ length returned = h.since in
    record {
      since = omega (arith, since, length-append returned (v ∷ []));
      fresh = get_or_append_left (value ∷ returned) (v ∷ []) value r.since (omega (arith, since)) ∙ h.fresh;
    }

known_right_returning : (value : ℕ) (w : Option ℕ) (k : Known) → KnownIsRight value k → KnownIsRight value (returning w k)
known_right_returning value None k h = h
known_right_returning value (Some v) k h = record {
  fresh = get_or_at (value ∷ k.returned) v [] value (length (k.returned ++ v ∷ [])) (omega (arith, length-append k.returned (v ∷ [])));
  reads = λ p r e. reading_still_right value v k.returned r (h.reads p r e);
}

known_right_read : (value q : ℕ) (k : Known) → KnownIsRight value k → KnownIsRight value (after k (Invoke q op.Read))
known_right_read value q k h = record {
  fresh = h.fresh;
  reads = λ p r e. go p r (q == p) (sym (found_last p (invoked_now q k) k.reads) ∙ e);
}
  where
    go : (p : ℕ) (r : Reading) (b : Bool) → cond b (Some (invoked_now q k)) (last_read p k) ≡ Some r → ReadingIsRight value k.returned r
    go p r true e = subst (ReadingIsRight value k.returned) (ap (λ o. unwrap_or o (invoked_now q k)) e) (reading_right_now value q k h)
    go p r false e = h.reads p r e

known_right_after : (value : ℕ) (k : Known) (e : Event) → KnownIsRight value k → KnownIsRight value (after k e)
known_right_after value k (Invoke p (op.Write v)) h = record { fresh = h.fresh; reads = h.reads }
known_right_after value k (Invoke p op.Read) h = known_right_read value p k h
known_right_after value k (Wrote p) h = known_right_returning value k.writing k h
known_right_after value k _ h = h

-- if item n of a list is v, and n is at least i, then v is among the items after the first i
among_later : (v d : ℕ) (xs : List ℕ) (i n : ℕ) → i ≤ n → n < length xs → get_or xs n d ≡ v → list_any (λ u. u == v) (drop i xs) ≡ true
among_later v d xs i n low high there =
    let at : get_or (drop i xs) (n - i) d ≡ v = get_or-drop i xs (n - i) d ∙ ap (λ j. get_or xs j d) (let e : i + (n - i) ≡ n = omega (arith, low) in e) ∙ there in
    list_any_at (λ u. u == v) (drop i xs) (n - i) d (let l = length-drop i xs in omega (arith, low, high, l)) (eq-eqb (get_or (drop i xs) (n - i) d) v at)

-- if a read's number is above the number of writes returned before it, a write of its value
-- overlaps it
number_overlaps : (value n p v : ℕ) (k : Known) → ReadingIsRight value k.returned (reading p k) → (reading p k).since < n → IsNumber value k p v n → overlaps (reading p k) v k ≡ true
number_overlaps value zero p v k noted later is = let f : ⊥ = omega (arith, later) in absurd f
number_overlaps value (suc m) p v k noted later is =
    let r : Reading = reading p k in
    let high : suc m < length (by_number value k) = is.high in
    ap (λ b. list_any (λ u. u == v) (drop r.since k.returned) || b) (is_value_is_among v k.writing)
    ∙ sym (list_any-append (λ u. u == v) (drop r.since k.returned) (in_progress k.writing))
    ∙ ap (list_any (λ u. u == v)) (sym (drop-append-le r.since k.returned (in_progress k.writing) noted.since))
    ∙ among_later v value (k.returned ++ in_progress k.writing) r.since m (omega (arith, later)) (omega (arith, high)) is.value_of

-- if a read's number is the number of writes returned before it, the read gives the fresh value
number_fresh : (value n p v : ℕ) (k : Known) → ReadingIsRight value k.returned (reading p k) → n ≡ (reading p k).since → IsNumber value k p v n → v ≡ (reading p k).fresh
number_fresh value n p v k noted e is =
    let since : (reading p k).since ≤ length k.returned = noted.since in
    sym is.value_of ∙ ap (λ i. get_or (by_number value k) i value) e
    ∙ get_or_append_left (value ∷ k.returned) (in_progress k.writing) value (reading p k).since (omega (arith, since)) ∙ noted.fresh

numbered_not_stray : (value n p v : ℕ) (k : Known) → KnownIsRight value k → IsNumber value k p v n → NotStray k p v
numbered_not_stray value n p v k h is = elim (cases_eq n (reading p k).since) as (λ _. NotStray k p v) [
  | inl e ↦ fresh (v == (reading p k).fresh) (eq-eqb v (reading p k).fresh (number_fresh value n p v k noted e is)) (overlaps (reading p k) v k)
  | inr ne ↦ let low : (reading p k).since ≤ n = is.low in
      not_stray (overlaps (reading p k) v k) (number_overlaps value n p v k noted (omega (arith, low, ne)) is) (v == (reading p k).fresh)
]
  where
    noted : ReadingIsRight value k.returned (reading p k)
    noted = reading_right value p k h

    fresh : (a : Bool) → a ≡ true → (b : Bool) → (if a then Fresh else (if b then Overlap else Stray)) ≡ Stray → ⊥
    fresh true e b s = cc
    fresh false e b s = cc

    not_stray : (b : Bool) → b ≡ true → (a : Bool) → (if a then Fresh else (if b then Overlap else Stray)) ≡ Stray → ⊥
    not_stray true e true s = cc
    not_stray true e false s = cc
    not_stray false e a s = cc

on_return_not_stray : (value n : ℕ) (k : Known) (e : Event) → KnownIsRight value k → OnReturn (λ k p v. IsNumber value k p v n) k e → OnReturn NotStray k e
on_return_not_stray value n k (Got p v) h is = numbered_not_stray value n p v k h is
on_return_not_stray value n k _ h is = tt

each_not_stray : (value floor : ℕ) (k : Known) (events : List (ℕ × Event)) → KnownIsRight value k → Numbered value floor k events → EachRead NotStray k events
each_not_stray value floor k [] h numbered = tt
each_not_stray value floor k (e ∷ events) h numbered =
    (on_return_not_stray value numbered.0 k e.1 h numbered.1.1.0, each_not_stray value numbered.0 (after k e.1) events (known_right_after value k e.1 h) numbered.1.1.1)

known_right_first : (value : ℕ) → KnownIsRight value (initially value)
known_right_first value = record { fresh = refl; reads = λ p r e. absurd (cc e) }

pub atomic_never_stray : {P : Type 0} (b : Behaviour P) → IsAtomic b → NeverStray b
atomic_never_stray b atomic value steps small fit = each_not_stray value 0 (initially value) _ (known_right_first value) (atomic.numbered value steps small fit)

pub regular_never_stray : {P : Type 0} (b : Behaviour P) → IsRegular b → NeverStray b
regular_never_stray b regular value steps small fit = regular.each_read value steps small fit
