-- A law stated by what `Known` has when a read returns is equivalent to the same law in Lamport's
-- words: lemmas `.._in_words` lead to Lamport's words, and lemmas `.._by_words` back.
use Rattle.std.proofs.Common.{◌≡◌, ◌≢◌, ℕ, ◌<◌, Bool, true, false, ◌||◌, List, [], ◌∷◌, ◌++◌, length, drop, Option, Some, None, ◌⊎◌, inl, inr, refl, sym, ap, subst, ◌∙◌, true≢false, eq-eqb}
use Rattle.std.specs.Prelude.{◌==◌, ◌↔◌, if◌then◌else◌}
use Rattle.std.specs.List.{list_any}
use Rattle.frames.specs.declared.types.Op.TheVariants as op
use Rattle.frames.specs.declared.types.Event.{Event}
use Rattle.frames.specs.declared.types.Event.TheVariants.{Invoke, Got, Wrote, Refused, Void, Stop, Chosen}
use Rattle.frames.specs.declared.verdict.Reading.{Reading}
use Rattle.frames.specs.declared.verdict.Verdict.{Verdict}
use Rattle.frames.specs.declared.verdict.Verdict.TheVariants.{Fresh, Overlap, Stray}
use Rattle.frames.specs.Behaviour.{Behaviour}
use Rattle.frames.specs.OneWriter.{HasOneWriter}
use Rattle.frames.specs.Recorded.{AllFit, recorded}
use Rattle.frames.specs.declared.types.Step.{Step}
use Rattle.frames.specs.correctness.Verdicts.{Known, is_refused, counts, accepted, initially, invoked_now, reading, is_value, judged}
use Rattle.frames.specs.correctness.Regularity.{in_progress, overlapped, OnReturn, EachRead, FreshAlone, NotStray, AlwaysReads, IsSafe, IsRegular}
use Rattle.pages.specs.VerdictWords.{InProgress, IsOneWriterHistory, ReturnedRead, during, afterwards, VerdictSays, RecordsOneWriter}
use Rattle.pages.specs.LawWords.{Overlaps, FreshIfAlone, FreshOrOverlapping, AlwaysInWords, IsSafeInWords, IsRegularInWords}
use Rattle.pages.proofs.VerdictKnown.{history-left, noting, known, reading_of_progress}
use Rattle.pages.proofs.VerdictOverlaps.{crossing_of_words, words_of_crossing}
use Rattle.pages.proofs.VerdictWords.{known_when_returned, read_of, verdict_words, test_of_crossing, crossing_of_test}

module _ (Says : Known → ℕ → ℕ → Type 0) where
  -- a law that holds with one more event in front, which counts or doesn't, holds without that
  -- event
  each_after : (counted : Bool) (k : Known) (x : ℕ × Event) (xs : List (ℕ × Event)) → EachRead Says k (if counted then x ∷ xs else xs) → EachRead Says (noting counted x.1 k) xs
  each_after true k x xs h = h.1
  each_after false k x xs h = h

  each_with : (counted : Bool) (k : Known) (x : ℕ × Event) (xs : List (ℕ × Event)) → OnReturn Says k x.1 → EachRead Says (noting counted x.1 k) xs → EachRead Says k (if counted then x ∷ xs else xs)
  each_with true k x xs h t = (h, t)
  each_with false k x xs h t = t

  at_return : (k : Known) (xs : List (ℕ × Event)) (i p v : ℕ) (ys : List (ℕ × Event)) → EachRead Says k (accepted (xs ++ (i, Got p v) ∷ ys)) → Says (known k xs ((i, Got p v) ∷ ys)) p v
  at_return k [] i p v ys h = h.0
  at_return k (x ∷ xs) i p v ys h =
      let counted = counts x.1 (is_refused (xs ++ (i, Got p v) ∷ ys)) in
      at_return (noting counted x.1 k) xs i p v ys (each_after counted k x (accepted (xs ++ (i, Got p v) ∷ ys)) h)

  at_each_return : (k : Known) (history : List (ℕ × Event))
      → ((xs : List (ℕ × Event)) (i p v : ℕ) (ys : List (ℕ × Event)) → history ≡ xs ++ (i, Got p v) ∷ ys → Says (known k xs ((i, Got p v) ∷ ys)) p v) → EachRead Says k (accepted history)
  at_each_return k [] f = tt
  at_each_return k ((i, e) ∷ es) f =
      each_with (counts e (is_refused es)) k (i, e) (accepted es) (by e refl)
      (at_each_return (noting (counts e (is_refused es)) e k) es (λ xs j p v ys s.
      subst (λ l. Says (known (noting (counts e (is_refused l)) e k) xs ((j, Got p v) ∷ ys)) p v) (sym s) (f ((i, e) ∷ xs) j p v ys (ap (λ l. (i, e) ∷ l) s))))
    where
      by : (event : Event) → e ≡ event → OnReturn Says k event
      by (Got p v) same = f [] i p v es (ap (λ x. (i, x) ∷ es) same)
      by (Invoke p o) same = tt
      by (Wrote p) same = tt
      by (Refused p layer) same = tt
      by (Void p reason) same = tt
      by (Stop p) same = tt
      by (Chosen p bit v) same = tt

-- from `Says` of each read, as it returns, to `Words` of each returned read, and back
module _ (initial : ℕ) (history : List (ℕ × Event)) (h : IsOneWriterHistory history) (Says : Known → ℕ → ℕ → Type 0) (Words : ReturnedRead history → Type 0) where
  each_in_words : ((r : ReturnedRead history) → Says (known_when_returned initial r) r.process r.value → Words r) → EachRead Says (initially initial) (accepted history) → (r : ReturnedRead history) → Words r
  each_in_words f each r =
      f r (at_return Says (initially initial) (r.earlier ++ during r) r.returned r.process r.value r.later (subst (λ l. EachRead Says (initially initial) (accepted l)) r.split each))

  each_by_words : ((r : ReturnedRead history) → Words r → Says (known_when_returned initial r) r.process r.value) → ((r : ReturnedRead history) → Words r) → EachRead Says (initially initial) (accepted history)
  each_by_words f words = at_each_return Says (initially initial) history (λ xs i p v ys s. at xs i p v ys s (h.follows xs i (Got p v) ys s))
    where
      at : (xs : List (ℕ × Event)) (i p v : ℕ) (ys : List (ℕ × Event)) → history ≡ xs ++ (i, Got p v) ∷ ys → InProgress p op.Read xs → Says (known (initially initial) xs ((i, Got p v) ∷ ys)) p v
      at xs i p v ys s w =
          let r = read_of history xs i p v ys s w in
          subst (λ l. Says (known (initially initial) l ((i, Got p v) ∷ ys)) p v) (sym w.split) (f r (words r))

-- what a verdict says of A, that the value is fresh, and of B, that a write of the value overlaps
seen_unless_stray : (verdict : Verdict) (A B : Type 0) → VerdictSays verdict A B → verdict ≢ Stray → A ⊎ B
seen_unless_stray Fresh A B h n = inl h
seen_unless_stray Overlap A B h n = inr h.1
seen_unless_stray Stray A B h n = absurd (n refl)

not_stray_if_seen : (verdict : Verdict) (A B : Type 0) → VerdictSays verdict A B → A ⊎ B → verdict ≢ Stray
not_stray_if_seen Fresh A B h s = λ e. cc
not_stray_if_seen Overlap A B h s = λ e. cc
not_stray_if_seen Stray A B h (inl a) = absurd (h.0 a)
not_stray_if_seen Stray A B h (inr b) = absurd (h.1 b)

value_fresh_if_verdict : (verdict : Verdict) (A B : Type 0) → VerdictSays verdict A B → verdict ≡ Fresh → A
value_fresh_if_verdict Fresh A B h e = h
value_fresh_if_verdict Overlap A B h e = absurd cc
value_fresh_if_verdict Stray A B h e = absurd cc

verdict_fresh_if_value : (verdict : Verdict) (A B : Type 0) → VerdictSays verdict A B → A → verdict ≡ Fresh
verdict_fresh_if_value Fresh A B h a = refl
verdict_fresh_if_value Overlap A B h a = absurd (h.0 a)
verdict_fresh_if_value Stray A B h a = absurd (h.0 a)

-- there are no values exactly if no value passes either test
no_value_passes : (xs : List ℕ) (o : Option ℕ) → xs ++ in_progress o ≡ [] → (v : ℕ) → (list_any (λ u. u == v) xs || is_value v o) ≡ false
no_value_passes [] None e v = refl
no_value_passes [] (Some u) e v = absurd cc
no_value_passes (x ∷ xs) o e v = absurd cc

empty_if_no_value_passes : (xs : List ℕ) (o : Option ℕ) → ((v : ℕ) → (list_any (λ u. u == v) xs || is_value v o) ≢ true) → xs ++ in_progress o ≡ []
empty_if_no_value_passes [] None n = refl
empty_if_no_value_passes [] (Some u) n = absurd (n u (eq-eqb u u refl))
empty_if_no_value_passes (x ∷ xs) o n = absurd (n x (ap (λ b. (b || list_any (λ u. u == x) xs) || is_value x o) (eq-eqb x x refl)))

module _ (initial : ℕ) (history : List (ℕ × Event)) (h : IsOneWriterHistory history) (r : ReturnedRead history) where
  -- what is known when the read returns, and what was known when it was invoked
  abbrev known_at_return : Known
  known_at_return = known_when_returned initial r

  abbrev known_at_invocation : Known
  known_at_invocation = known (initially initial) r.earlier (during r ++ afterwards r)

  whole_history : IsOneWriterHistory ((r.earlier ++ during r) ++ afterwards r)
  whole_history = subst IsOneWriterHistory r.split h

  history_before_return : IsOneWriterHistory (r.earlier ++ during r)
  history_before_return = history-left (r.earlier ++ during r) (afterwards r) whole_history

  reading_is_as_invoked : reading r.process known_at_return ≡ invoked_now r.process known_at_invocation
  reading_is_as_invoked = reading_of_progress r.process (initially initial) r.earlier r.since (afterwards r) r.invoked r.quiet

  -- if `Known` has no value that overlaps a read, no write overlaps it; and back
  alone_in_words : overlapped r.process known_at_return ≡ [] → (v : ℕ) → ¬ Overlaps v r
  alone_in_words e v w =
      let none : drop (length known_at_invocation.returned) known_at_return.returned ++ in_progress known_at_return.writing ≡ [] =
      subst (λ (x : Reading). drop x.since known_at_return.returned ++ in_progress known_at_return.writing ≡ []) reading_is_as_invoked e in
      let test = test_of_crossing initial v r.earlier (during r) (afterwards r) history_before_return (crossing_of_words v r.earlier (during r) (afterwards r) whole_history w) in
      absurd (true≢false (sym test ∙ no_value_passes _ known_at_return.writing none v))

  alone_by_words : ((v : ℕ) → ¬ Overlaps v r) → overlapped r.process known_at_return ≡ []
  alone_by_words n =
      subst (λ (x : Reading). drop x.since known_at_return.returned ++ in_progress known_at_return.writing ≡ []) (sym reading_is_as_invoked)
      (empty_if_no_value_passes _ known_at_return.writing (λ v test. n v (words_of_crossing v r.earlier (during r) (afterwards r) whole_history.roles (crossing_of_test initial v r.earlier (during r) (afterwards r) history_before_return test))))

  safe_in_words : FreshAlone known_at_return r.process r.value → FreshIfAlone initial r
  safe_in_words says alone = value_fresh_if_verdict (judged known_at_return r.process r.value) _ _ (verdict_words initial history h r) (says (alone_by_words alone))

  safe_by_words : FreshIfAlone initial r → FreshAlone known_at_return r.process r.value
  safe_by_words says alone = verdict_fresh_if_value (judged known_at_return r.process r.value) _ _ (verdict_words initial history h r) (says (alone_in_words alone))

  regular_in_words : NotStray known_at_return r.process r.value → FreshOrOverlapping initial r
  regular_in_words says = seen_unless_stray (judged known_at_return r.process r.value) _ _ (verdict_words initial history h r) says

  regular_by_words : FreshOrOverlapping initial r → NotStray known_at_return r.process r.value
  regular_by_words says = not_stray_if_seen (judged known_at_return r.process r.value) _ _ (verdict_words initial history h r) says

-- from the law that `Says` holds of each read as it returns to the law in words, and back
module _ {P : Type 0} (b : Behaviour P) (records : HasOneWriter b → RecordsOneWriter b) where
  module _ (Says : Known → ℕ → ℕ → Type 0) (Words : (history : List (ℕ × Event)) → ℕ → ReturnedRead history → Type 0) where
    always_in_words : ((initial : ℕ) (history : List (ℕ × Event)) → IsOneWriterHistory history → (r : ReturnedRead history) → Says (known_when_returned initial r) r.process r.value → Words history initial r)
        → AlwaysReads b Says → AlwaysInWords b Words
    always_in_words to h = record { one_writer = h.one_writer; refuses_none = h.refuses_none; each_read = each }
      where
        each : (value : ℕ) (steps : List Step) → value < b.values → AllFit b steps → (r : ReturnedRead (recorded b value steps)) → Words (recorded b value steps) value r
        each value steps within fit =
            let history = records h.one_writer value steps within fit in
            each_in_words value (recorded b value steps) history Says (Words (recorded b value steps) value) (to value (recorded b value steps) history) (h.each_read value steps within fit)

    always_by_words : ((initial : ℕ) (history : List (ℕ × Event)) → IsOneWriterHistory history → (r : ReturnedRead history) → Words history initial r → Says (known_when_returned initial r) r.process r.value)
        → AlwaysInWords b Words → AlwaysReads b Says
    always_by_words from h = record { one_writer = h.one_writer; refuses_none = h.refuses_none; each_read = each }
      where
        each : (value : ℕ) (steps : List Step) → value < b.values → AllFit b steps → EachRead Says (initially value) (accepted (recorded b value steps))
        each value steps within fit =
            let history = records h.one_writer value steps within fit in
            each_by_words value (recorded b value steps) history Says (Words (recorded b value steps) value) (from value (recorded b value steps) history) (h.each_read value steps within fit)

  pub safe_words_alike : IsSafe b ↔ IsSafeInWords b
  safe_words_alike =
      let words = λ (history : List (ℕ × Event)) (initial : ℕ) (r : ReturnedRead history). FreshIfAlone initial r in
      (always_in_words FreshAlone words safe_in_words, always_by_words FreshAlone words safe_by_words)

  pub regular_words_alike : IsRegular b ↔ IsRegularInWords b
  regular_words_alike =
      let words = λ (history : List (ℕ × Event)) (initial : ℕ) (r : ReturnedRead history). FreshOrOverlapping initial r in
      (always_in_words NotStray words regular_in_words, always_by_words NotStray words regular_by_words)
