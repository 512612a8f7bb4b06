-- The verdicts on a history are those of Lamport's regularity in words.
use Rattle.std.proofs.Common.{◌≡◌, ℕ, Bool, true, false, ◌||◌, List, ◌∷◌, ◌++◌, length, Option, Some, None, ◌⊎◌, inl, inr, refl, sym, ap, subst, ◌∙◌, true≢false, arith, eq-eqb, append_assoc}
use Rattle.std.specs.Prelude.{◌==◌, if◌then◌else◌}
use Rattle.std.specs.List.{list_any}
use Rattle.std.proofs.lemmas.Bool.{eqb-true, and_parts, or_cases, or_right}
use Rattle.std.proofs.Math.Seq.{drop-length}
use Rattle.frames.specs.declared.types.Op.TheVariants as op
use Rattle.frames.specs.declared.types.Event.{Event}
use Rattle.frames.specs.declared.types.Event.TheVariants.{Got, Wrote}
use Rattle.frames.specs.declared.verdict.Reading.{Reading}
use Rattle.frames.specs.declared.verdict.Verdict.TheVariants.{Fresh, Overlap, Stray}
use Rattle.frames.specs.correctness.Verdicts.{Known, accepted, initially, invoked_now, returning, after, reading, is_value, has_returned, overlaps, judged, verdicts_from, verdicts}
use Rattle.pages.specs.VerdictWords.{InProgress, suits_role, IsOneWriterHistory, ReturnedRead, during, afterwards, IsFresh, VerdictSays, IsVerdictOn, AreJudged}
use Rattle.pages.proofs.VerdictOverlaps.{ReturnsIn, Crosses, crossing_of_words, words_of_crossing}
use Rattle.pages.proofs.VerdictKnown.{HaveRoles, roles-left, roles-right, history-left, known, known-append, writing_of_progress, progress_of_writing, known_fresh, returned_among, ReturnedAmong, among_of_returned, EndsWrites, last_return, reading_of_progress, accepted_of, verdicts-append, length-verdicts_of, length-verdicts}

module _ (initial : ℕ) where
  -- what is known after the events xs, if the events `later` follow
  abbrev known_after : List (ℕ × Event) → List (ℕ × Event) → Known
  known_after xs later = known (initially initial) xs later

  -- in a history of a register with one writer, each write that returns is in progress until then
  pub ends_writes : (xs later : List (ℕ × Event)) → IsOneWriterHistory xs → EndsWrites (initially initial) xs later
  ends_writes xs later h before i p rest s =
      let roles : HaveRoles (before ++ (i, Wrote p) ∷ rest) = subst HaveRoles s h.roles in
      let own = and_parts (suits_role (Wrote p)) _ (roles-right before ((i, Wrote p) ∷ rest) roles) in
      let writer = eqb-true p 0 own.0 in
      let write = h.follows before i (Wrote p) rest s in
      let by_0 : InProgress 0 (op.Write write.0) before = subst (λ q. InProgress q (op.Write write.0) before) writer write.1 in
      (write.0, writing_of_progress (initially initial) write.0 before ((i, Wrote p) ∷ (rest ++ later)) by_0 (roles-left before ((i, Wrote p) ∷ rest) roles) refl, writer)

  -- `Known` has v as the fresh value if v is fresh in Lamport's words, and back
  fresh_of_words : (v : ℕ) (xs later : List (ℕ × Event)) → HaveRoles xs → IsFresh initial v xs → (known_after xs later).fresh ≡ v
  fresh_of_words v xs later r (inl w) =
      let x : ℕ × Event = (w.step, Wrote 0) in
      let roles = roles-left w.earlier (x ∷ w.since) (subst HaveRoles w.split r) in
      let upto = known_after w.earlier (x ∷ (w.since ++ later)) in
      ap (λ es. (known_after es later).fresh) w.split
      ∙ ap (λ (k : Known). k.fresh) (known-append (initially initial) w.earlier (x ∷ w.since) later)
      ∙ known_fresh (after upto (Wrote 0)) w.since later w.last
      ∙ ap (λ o. (returning o upto).fresh) (writing_of_progress (initially initial) v w.earlier (x ∷ (w.since ++ later)) w.write roles refl)
  fresh_of_words v xs later r (inr w) = known_fresh (initially initial) xs later w.0 ∙ sym w.1

  words_of_fresh : (xs later : List (ℕ × Event)) → IsOneWriterHistory xs → IsFresh initial (known_after xs later).fresh xs
  words_of_fresh xs later h =
      elim (last_return (initially initial) xs later (ends_writes xs later h)) [
        | inl w ↦ inr (w.1, w.0)
        | inr l ↦
            let r = l.among in
            let x : ℕ × Event = (r.step, Wrote 0) in
            inl (record {
              earlier = r.before;
              step = r.step;
              since = r.since;
              split = r.split;
              write = (progress_of_writing initial (known_after xs later).fresh r.before (x ∷ (r.since ++ later)) (history-left r.before (x ∷ r.since) (subst IsOneWriterHistory r.split h)) r.writing).0;
              last = l.last;
            })
      ]

  -- if `is_value` finds that v is the value of an option, the option is `Some v`
  value_of_option : (o : Option ℕ) (v : ℕ) → is_value v o ≡ true → o ≡ Some v
  value_of_option None v h = absurd (true≢false (sym h))
  value_of_option (Some u) v h = ap Some (eqb-true u v h)

  -- values of writes that overlap the events `during`, which come between `earlier` and `later`
  module _ (v : ℕ) (earlier during later : List (ℕ × Event)) (h : IsOneWriterHistory (earlier ++ during)) where
    -- what is known before and after the events `during`
    abbrev known_before_during : Known
    known_before_during = known_after earlier (during ++ later)

    abbrev known_after_during : Known
    known_after_during = known_after (earlier ++ during) later

    -- whether, by what is known, a write of v has returned in `during` or is in progress
    abbrev overlap_test : Bool
    overlap_test = has_returned v (length known_before_during.returned) known_after_during || is_value v known_after_during.writing

    -- a split of `during` is also one of `during` followed by `later`
    cut : (before : List (ℕ × Event)) (x : ℕ × Event) (since : List (ℕ × Event)) → during ≡ before ++ x ∷ since → during ++ later ≡ before ++ (x ∷ (since ++ later))
    cut before x since s = ap (λ es. es ++ later) s ∙ append_assoc before (x ∷ since) later

    known_at : (before rest : List (ℕ × Event)) → during ++ later ≡ before ++ rest → known known_before_during before rest ≡ known_after (earlier ++ before) rest
    known_at before rest q = ap (λ es. known (known_after earlier es) before rest) q ∙ sym (known-append (initially initial) earlier before rest)

    history_left_of : (before : List (ℕ × Event)) (x : ℕ × Event) (since : List (ℕ × Event)) → during ≡ before ++ x ∷ since → IsOneWriterHistory (earlier ++ before)
    history_left_of before x since s = history-left (earlier ++ before) (x ∷ since) (subst IsOneWriterHistory (ap (λ es. earlier ++ es) s ∙ sym (append_assoc earlier before (x ∷ since))) h)

    pub test_of_crossing : Crosses v earlier during later → overlap_test ≡ true
    test_of_crossing (inl w) =
        or_right (has_returned v (length known_before_during.returned) known_after_during) _
        (ap (is_value v) (writing_of_progress (initially initial) v (earlier ++ during) later w.0 h.roles w.1) ∙ eq-eqb v v refl)
    test_of_crossing (inr r) =
        let x : ℕ × Event = (r.step, Wrote 0) in
        let writing : (known known_before_during r.before (x ∷ (r.since ++ later))).writing ≡ Some v =
        ap (λ (k : Known). k.writing) (known_at r.before (x ∷ (r.since ++ later)) (cut r.before x r.since r.split))
        ∙ writing_of_progress (initially initial) v (earlier ++ r.before) (x ∷ (r.since ++ later)) r.write (history_left_of r.before x r.since r.split).roles refl in
        let found : has_returned v (length known_before_during.returned) known_after_during ≡ true =
        ap (has_returned v (length known_before_during.returned)) (known-append (initially initial) earlier during later ∙ ap (λ es. known known_before_during es later) r.split)
        ∙ returned_among known_before_during v r.before r.since later r.step writing in
        ap (λ b. b || is_value v known_after_during.writing) found

    pub crossing_of_test : overlap_test ≡ true → Crosses v earlier during later
    crossing_of_test t =
        elim (or_cases (has_returned v (length known_before_during.returned) known_after_during) (is_value v known_after_during.writing) t) [
          | inl returned ↦ inr (of_returned (among_of_returned known_before_during during later v (length known_before_during.returned) (roles-right earlier during h.roles) (omega arith)
              (ap (has_returned v (length known_before_during.returned)) (sym (known-append (initially initial) earlier during later)) ∙ returned)))
          | inr writing ↦ inl (progress_of_writing initial v (earlier ++ during) later h (value_of_option known_after_during.writing v writing))
        ]
      where
        of_returned : (has_returned v (length known_before_during.returned) known_before_during ≡ true) ⊎ ReturnedAmong known_before_during v during later → ReturnsIn v earlier during
        of_returned (inl old) = absurd (true≢false (sym old ∙ ap (list_any (λ u. u == v)) (drop-length known_before_during.returned)))
        of_returned (inr r) =
            let x : ℕ × Event = (r.step, Wrote 0) in
            record {
              before = r.before;
              step = r.step;
              since = r.since;
              split = r.split;
              write = (progress_of_writing initial v (earlier ++ r.before) (x ∷ (r.since ++ later)) (history_left_of r.before x r.since r.split)
                  (ap (λ (k : Known). k.writing) (sym (known_at r.before (x ∷ (r.since ++ later)) (cut r.before x r.since r.split))) ∙ r.writing)).0;
            }

-- a verdict by two tests says what they decide
verdict_of_tests : (a b : Bool) (A B : Type 0) → (a ≡ true → A) → (A → a ≡ true) → (b ≡ true → B) → (B → b ≡ true) → VerdictSays (if a then Fresh else (if b then Overlap else Stray)) A B
verdict_of_tests true b A B f g h k = f refl
verdict_of_tests false true A B f g h k = (λ x. true≢false (sym (g x)), h refl)
verdict_of_tests false false A B f g h k = (λ x. true≢false (sym (g x)), λ y. true≢false (sym (k y)))

-- what is known when a read returns, from the events before its return
abbrev pub known_when_returned : {history : List (ℕ × Event)} → ℕ → ReturnedRead history → Known
known_when_returned initial r = known (initially initial) (r.earlier ++ during r) (afterwards r)

-- the read that returns by the event (i, Got p v)
abbrev pub read_of : (history xs : List (ℕ × Event)) (i p v : ℕ) (ys : List (ℕ × Event)) → history ≡ xs ++ (i, Got p v) ∷ ys → InProgress p op.Read xs → ReturnedRead history
read_of history xs i p v ys s w = record {
  process = p;
  value = v;
  earlier = w.earlier;
  invoked = w.step;
  since = w.since;
  returned = i;
  later = ys;
  split = s ∙ ap (λ l. l ++ (i, Got p v) ∷ ys) w.split;
  quiet = w.quiet;
}

-- the verdict that `Known` gives when a read returns is the right one
pub verdict_words : (initial : ℕ) (history : List (ℕ × Event)) → IsOneWriterHistory history → (r : ReturnedRead history) → IsVerdictOn initial r (judged (known_when_returned initial r) r.process r.value)
verdict_words initial history h r =
    let later = afterwards r in
    let upto = known (initially initial) r.earlier (during r ++ later) in
    let all = known_when_returned initial r in
    let full : IsOneWriterHistory ((r.earlier ++ during r) ++ later) = subst IsOneWriterHistory r.split h in
    let whole : IsOneWriterHistory (r.earlier ++ during r) = history-left (r.earlier ++ during r) later full in
    let first : IsOneWriterHistory r.earlier = history-left r.earlier (during r) whole in
    let invoked : reading r.process all ≡ invoked_now r.process upto = reading_of_progress r.process (initially initial) r.earlier r.since later r.invoked r.quiet in
    subst (λ (x : Reading). IsVerdictOn initial r (if r.value == x.fresh then Fresh else (if overlaps x r.value all then Overlap else Stray))) (sym invoked)
    (verdict_of_tests (r.value == upto.fresh) (overlaps (invoked_now r.process upto) r.value all) _ _
    (λ e. subst (λ v. IsFresh initial v r.earlier) (sym (eqb-true r.value upto.fresh e)) (words_of_fresh initial r.earlier (during r ++ later) first))
    (λ w. eq-eqb r.value upto.fresh (sym (fresh_of_words initial r.value r.earlier (during r ++ later) first.roles w)))
    (λ e. words_of_crossing r.value r.earlier (during r) later full.roles (crossing_of_test initial r.value r.earlier (during r) later whole e))
    (λ w. test_of_crossing initial r.value r.earlier (during r) later whole (crossing_of_words r.value r.earlier (during r) later full w)))

pub judged_in_words : (initial : ℕ) (history : List (ℕ × Event)) → IsOneWriterHistory history → AreJudged initial history
judged_in_words initial history h = record {
  each = λ r.
      let before = r.earlier ++ during r in
      let all = known_when_returned initial r in
      record {
        verdict = judged all r.process r.value;
        on_it = verdict_words initial history h r;
        before = verdicts_from (initially initial) (accepted_of before (afterwards r));
        following = verdicts_from (after all (Got r.process r.value)) (accepted r.later);
        split = ap (verdicts initial) r.split ∙ verdicts-append (initially initial) before (afterwards r);
        place = length-verdicts_of (initially initial) before (afterwards r);
      };
  all = length-verdicts (initially initial) history;
}
