-- Returned reads can be numbered by what `Known` holds when they return exactly if they can be
-- numbered in Lamport's words.
use Rattle.std.proofs.Common.{◌≡◌, ℕ, zero, suc, ◌+◌, ◌<◌, ◌≤◌, Bool, true, false, cond, List, [], ◌∷◌, ◌++◌, length, Option, Some, None, ◌⊎◌, inl, inr, refl, sym, ap, subst, ◌∙◌, true≢false, arith, get_or, append_assoc, length-append}
use Rattle.std.specs.Prelude.{◌↔◌, if◌then◌else◌}
use Rattle.std.specs.List.{list_any, list_all, filter}
use Rattle.std.proofs.lemmas.Bool.{eqb-true, or_parts, and_parts, cases_lt}
use Rattle.std.proofs.lemmas.List.{get_or_at, get_or_append_left}
use Rattle.std.proofs.lemmas.List.Elements.{filter-append}
use Rattle.frames.specs.declared.types.Op.TheVariants as op
use Rattle.frames.specs.declared.types.Event.{Event}
use Rattle.frames.specs.declared.types.Event.TheVariants.{Invoke, Got, Wrote}
use Rattle.frames.specs.declared.verdict.Reading.{Reading}
use Rattle.frames.specs.Behaviour.{Behaviour}
use Rattle.frames.specs.OneWriter.{HasOneWriter}
use Rattle.frames.specs.Recorded.{recorded}
use Rattle.frames.specs.correctness.Verdicts.{Known, is_refused, counts, accepted, initially, returning, reading}
use Rattle.frames.specs.correctness.Regularity.{in_progress, OnReturn, by_number, IsNumber, Numbered, IsAtomic}
use Rattle.pages.specs.VerdictWords.{begins_or_ends, IsQuiet, InProgress, suits_role, IsOneWriterHistory, ReturnedRead, during, afterwards, is_written, is_got, returned_reads, RecordsOneWriter}
use Rattle.pages.specs.LawWords.{returned_writes, IsWrite, NumbersRead, AreNumbered, IsAtomicInWords}
use Rattle.pages.proofs.VerdictKnown.{no_event, HaveRoles, roles-right, history-left, noting, known, known-append, noting_split, writing_of_progress, progress_of_writing, noting_returned, known_grows, EndsWrites, ends_writes_after, reading_of_progress}
use Rattle.pages.proofs.VerdictOverlaps.{in_progress_or_returns, still_unrefused, returned_unrefused, roles_since}
use Rattle.pages.proofs.VerdictWords.{ends_writes, known_when_returned, read_of}

-- as `length-cons_if`, with the item counted on its own
length-cons_if_sum : (b : Bool) (e : ℕ × Event) (es : List (ℕ × Event)) → length (cond b (e ∷ es) es) ≡ cond b 1 0 + length es
length-cons_if_sum true e es = omega arith
length-cons_if_sum false e es = omega arith

-- how many writes return in a list: in its first event and in the others, or in its two parts
writes_first : (e : ℕ × Event) (es : List (ℕ × Event)) → returned_writes (e ∷ es) ≡ cond (is_written e.1) 1 0 + returned_writes es
writes_first e es = length-cons_if_sum (is_written e.1) e (filter (λ x. is_written x.1) es)

writes-append : (xs ys : List (ℕ × Event)) → returned_writes (xs ++ ys) ≡ returned_writes xs + returned_writes ys
writes-append xs ys = ap length (filter-append (λ e. is_written e.1) xs ys) ∙ length-append (filter (λ e. is_written e.1) xs) (filter (λ e. is_written e.1) ys)

not_written_if_quiet : (e : Event) → begins_or_ends 0 e ≡ false → suits_role e ≡ true → is_written e ≡ false
not_written_if_quiet (Wrote p) q r = absurd (true≢false (sym r ∙ q))
not_written_if_quiet e q r = refl

quiet_writes : (xs : List (ℕ × Event)) → IsQuiet 0 xs → HaveRoles xs → returned_writes xs ≡ 0
quiet_writes [] q r = refl
quiet_writes (e ∷ es) q r =
    let quiet = or_parts (begins_or_ends 0 e.1) (list_any (λ x. begins_or_ends 0 x.1) es) q in
    let roles = and_parts (suits_role e.1) (list_all (λ x. suits_role x.1) es) r in
    writes_first e es ∙ ap (λ b. cond b 1 0 + returned_writes es) (not_written_if_quiet e.1 quiet.0 roles.0) ∙ ap (λ n. 0 + n) (quiet_writes es quiet.1 roles.1) ∙ (omega arith)

-- no write returns while one is in progress
progress_writes : (v : ℕ) (xs : List (ℕ × Event)) (w : InProgress 0 (op.Write v) xs) → HaveRoles xs → returned_writes xs ≡ returned_writes w.earlier
progress_writes v xs w r =
    let x : ℕ × Event = (w.step, Invoke 0 (op.Write v)) in
    let roles : HaveRoles w.since = roles-right w.earlier (x ∷ w.since) (subst HaveRoles w.split r) in
    let parts = ap returned_writes w.split ∙ writes-append w.earlier (x ∷ w.since) in
    let first = writes_first x w.since in
    let none = quiet_writes w.since w.quiet roles in
    omega (arith, parts, first, none)

one_returned : (k : Known) (i : ℕ) (e : Event) (es later : List (ℕ × Event)) → EndsWrites k ((i, e) ∷ es) later
    → length (noting (counts e (is_refused (es ++ later))) e k).returned ≡ length k.returned + cond (is_written e) 1 0
one_returned k i (Wrote p) es later ends =
    let write = ends [] i p es refl in
    ap (λ o. length (returning o k).returned) write.1 ∙ length-append k.returned (write.0 ∷ [])
one_returned k i e es later ends = ap length (noting_returned (counts e (is_refused (es ++ later))) k e refl) ∙ (omega arith)

-- `Known` has as many values of returned writes as writes returned
returned_count : (k : Known) (xs later : List (ℕ × Event)) → EndsWrites k xs later → length (known k xs later).returned ≡ length k.returned + returned_writes xs
returned_count k [] later ends = omega arith
returned_count k (e ∷ es) later ends =
    let rest = returned_count (noting (counts e.1 (is_refused (es ++ later))) e.1 k) es later (ends_writes_after k e es later ends) in
    let one = one_returned k e.0 e.1 es later ends in
    let first = writes_first e es in
    omega (arith, rest, one, first)

-- a write of v returns in `xs`, when the values of m returned writes are known
record ReturnAt (k : Known) (xs later : List (ℕ × Event)) (m v : ℕ) : Type 0 where
  before : List (ℕ × Event)
  step : ℕ
  since : List (ℕ × Event)
  split : xs ≡ before ++ (step, Wrote 0) ∷ since
  writing : (known k before ((step, Wrote 0) ∷ (since ++ later))).writing ≡ Some v
  count : length (known k before ((step, Wrote 0) ∷ (since ++ later))).returned ≡ m

-- the writes that return in events: the one in progress returns first, or one in the rest does
return_now : (o : Option ℕ) (k : Known) (i p : ℕ) (es later : List (ℕ × Event)) (m d : ℕ) → k.writing ≡ o → p ≡ 0 → length k.returned ≤ m → m < length (returning o k).returned
    → ReturnAt k ((i, Wrote p) ∷ es) later m (get_or (known (returning o k) es later).returned m d)
return_now None k i p es later m d w z low high = let f : ⊥ = omega (arith, low, high) in absurd f
return_now (Some v) k i p es later m d w z low high =
    let l = length-append k.returned (v ∷ []) in
    let at : length k.returned ≡ m = omega (arith, low, high, l) in
    let grown = known_grows (returning (Some v) k) es later in
    let value : get_or (known (returning (Some v) k) es later).returned m d ≡ v =
    ap (λ xs. get_or xs m d) (grown.1 ∙ append_assoc k.returned (v ∷ []) grown.0) ∙ get_or_at k.returned v grown.0 d m at in
    record { before = []; step = i; since = es; split = ap (λ q. (i, Wrote q) ∷ es) z; writing = w ∙ ap Some (sym value); count = at }

return_head : (k : Known) (i : ℕ) (e : Event) (es later : List (ℕ × Event)) (m d : ℕ) → suits_role e ≡ true → length k.returned ≤ m
    → m < length (noting (counts e (is_refused (es ++ later))) e k).returned
    → ReturnAt k ((i, e) ∷ es) later m (get_or (known (noting (counts e (is_refused (es ++ later))) e k) es later).returned m d)
return_head k i (Wrote p) es later m d r low high = return_now k.writing k i p es later m d refl (eqb-true p 0 r) low high
return_head k i e es later m d r low high =
    let same = ap length (noting_returned (counts e (is_refused (es ++ later))) k e refl) in
    let f : ⊥ = omega (arith, low, high, same) in absurd f

return_after : (k : Known) (e : ℕ × Event) (es later : List (ℕ × Event)) (m v : ℕ) → ReturnAt (noting (counts e.1 (is_refused (es ++ later))) e.1 k) es later m v → ReturnAt k (e ∷ es) later m v
return_after k e es later m v r =
    let same = sym (noting_split k e.1 es r.before r.since later (r.step, Wrote 0) r.split) in
    record {
      before = e ∷ r.before;
      step = r.step;
      since = r.since;
      split = ap (λ l. e ∷ l) r.split;
      writing = ap (λ n. (known n r.before ((r.step, Wrote 0) ∷ (r.since ++ later))).writing) same ∙ r.writing;
      count = ap (λ n. length (known n r.before ((r.step, Wrote 0) ∷ (r.since ++ later))).returned) same ∙ r.count;
    }

-- if the values of more than m returned writes are known after `xs`, and of at most m before, then
-- the write whose value is at index m returns in `xs`
return_at : (k : Known) (xs later : List (ℕ × Event)) (m d : ℕ) → HaveRoles xs → length k.returned ≤ m → m < length (known k xs later).returned
    → ReturnAt k xs later m (get_or (known k xs later).returned m d)
return_at k [] later m d r low high = let f : ⊥ = omega (arith, low, high) in absurd f
return_at k (e ∷ es) later m d r low high =
    let roles = and_parts (suits_role e.1) (list_all (λ x. suits_role x.1) es) r in
    let k2 : Known = noting (counts e.1 (is_refused (es ++ later))) e.1 k in
    elim (cases_lt m (length k2.returned)) as (λ _. ReturnAt k (e ∷ es) later m (get_or (known k2 es later).returned m d)) [
      | inl now ↦ return_head k e.0 e.1 es later m d roles.0 low now
      | inr beyond ↦ return_after k e es later m (get_or (known k2 es later).returned m d) (return_at k2 es later m d roles.1 beyond high)
    ]

module _ (initial : ℕ) where
  -- what is known before the first event
  abbrev first : Known
  first = initially initial

  -- the values of the writes that have returned, and then that of the one in progress
  abbrev values : List (ℕ × Event) → List (ℕ × Event) → List ℕ
  values xs later = (known first xs later).returned ++ in_progress (known first xs later).writing

  -- the number of a write in progress, and that of a write that returned
  write_in_progress : (xs later : List (ℕ × Event)) (v : ℕ) → IsOneWriterHistory (xs ++ later) → (known first xs later).writing ≡ Some v
      → IsWrite (length (known first xs later).returned + 1) v xs later
  write_in_progress xs later v whole writing =
      let h = history-left xs later whole in
      let p = progress_of_writing initial v xs later h writing in
      let w = p.0 in
      record {
        before = w.earlier;
        step = w.step;
        since = w.since;
        split = w.split;
        unrefused = still_unrefused w.since later w.quiet (roles_since xs later w.earlier w.since (w.step, Invoke 0 (op.Write v)) whole.roles w.split) p.1;
        number = (let all = returned_count first xs later (ends_writes initial xs later h) in let same = progress_writes v xs w h.roles in omega (arith, all, same));
      }

  write_returned : (xs later : List (ℕ × Event)) (m v : ℕ) → IsOneWriterHistory xs → ReturnAt first xs later m v → IsWrite (m + 1) v xs later
  write_returned xs later m v h r =
      let y : ℕ × Event = (r.step, Wrote 0) in
      let left : IsOneWriterHistory r.before = history-left r.before (y ∷ r.since) (subst IsOneWriterHistory r.split h) in
      let w = (progress_of_writing initial v r.before (y ∷ (r.since ++ later)) left r.writing).0 in
      let x : ℕ × Event = (w.step, Invoke 0 (op.Write v)) in
      record {
        before = w.earlier;
        step = w.step;
        since = w.since ++ y ∷ r.since;
        split = r.split ∙ ap (λ es. es ++ y ∷ r.since) w.split ∙ append_assoc w.earlier (x ∷ w.since) (y ∷ r.since);
        unrefused = returned_unrefused w.since r.since later r.step w.quiet;
        number = (
            let all = returned_count first r.before (y ∷ (r.since ++ later)) (ends_writes initial r.before (y ∷ (r.since ++ later)) left) in
            let same = progress_writes v r.before w left.roles in
            let count = r.count in
            omega (arith, all, same, count));
      }

  -- the value at index m is that of write number m + 1
  write_of_value : (xs later : List (ℕ × Event)) (m v d : ℕ) → IsOneWriterHistory (xs ++ later) → m < length (values xs later) → get_or (values xs later) m d ≡ v → IsWrite (m + 1) v xs later
  write_of_value xs later m v d whole high value =
      elim (cases_lt m (length k.returned)) as (λ _. IsWrite (m + 1) v xs later) [
        | inl low ↦ subst (λ u. IsWrite (m + 1) u xs later) (sym (get_or_append_left k.returned (in_progress k.writing) d m low) ∙ value)
            (write_returned xs later m (get_or k.returned m d) h (return_at first xs later m d h.roles (omega arith) low))
        | inr late ↦ last k.writing refl late high value
      ]
    where
      k : Known
      k = known first xs later

      h : IsOneWriterHistory xs
      h = history-left xs later whole

      last : (o : Option ℕ) → (known first xs later).writing ≡ o → length (known first xs later).returned ≤ m
          → m < length ((known first xs later).returned ++ in_progress o) → get_or ((known first xs later).returned ++ in_progress o) m d ≡ v → IsWrite (m + 1) v xs later
      last None e late high value = let l = length-append (known first xs later).returned [] in let f : ⊥ = omega (arith, late, high, l) in absurd f
      last (Some u) e late high value =
          let l = length-append (known first xs later).returned (u ∷ []) in
          let at : length (known first xs later).returned ≡ m = omega (arith, late, high, l) in
          let same : u ≡ v = sym (get_or_at (known first xs later).returned u [] d m at) ∙ value in
          subst (λ n. IsWrite (n + 1) v xs later) at (write_in_progress xs later v whole (e ∙ ap Some same))

  -- in the list of the initial value and the values of writes, v is at index n
  record HasValue (xs later : List (ℕ × Event)) (n v : ℕ) : Type 0 where
    high : n < length (initial ∷ values xs later)
    value : get_or (initial ∷ values xs later) n initial ≡ v

  value_at : (xs later : List (ℕ × Event)) (n v : ℕ) (front rest : List ℕ) → values xs later ≡ front ++ v ∷ rest → n ≡ length front + 1 → HasValue xs later n v
  value_at xs later n v front rest e at = record {
    high = (let l = ap length e ∙ length-append front (v ∷ rest) in omega (arith, l, at));
    value = ap (λ l. get_or (initial ∷ l) n initial) e ∙ get_or_at (initial ∷ front) v rest initial n (omega (arith, at));
  }

  value_of_write : (xs later : List (ℕ × Event)) (n v : ℕ) → IsOneWriterHistory (xs ++ later) → IsWrite n v xs later → HasValue xs later n v
  value_of_write xs later n v whole w =
      elim (in_progress_or_returns v xs later w.before w.step w.since whole w.split w.unrefused) [
        | inl still ↦
            let p : InProgress 0 (op.Write v) xs = record { earlier = w.before; step = w.step; since = w.since; split = w.split; quiet = still.0 } in
            let k : Known = known first xs later in
            let writing : k.writing ≡ Some v = writing_of_progress first v xs later p h.roles still.1 in
            let all = returned_count first xs later (ends_writes initial xs later h) in
            let same = progress_writes v xs p h.roles in
            let number = w.number in
            value_at xs later n v k.returned [] (ap (λ o. k.returned ++ in_progress o) writing) (omega (arith, all, same, number))
        | inr e ↦
            let x : ℕ × Event = (w.step, Invoke 0 (op.Write v)) in
            let y : ℕ × Event = (e.step, Wrote 0) in
            let upto = w.before ++ x ∷ e.before in
            let cut : xs ≡ upto ++ y ∷ e.later = w.split ∙ ap (λ es. w.before ++ x ∷ es) e.split ∙ sym (append_assoc w.before (x ∷ e.before) (y ∷ e.later)) in
            let p : InProgress 0 (op.Write v) upto = record { earlier = w.before; step = w.step; since = e.before; split = refl; quiet = e.quiet } in
            let left : IsOneWriterHistory upto = history-left upto (y ∷ e.later) (subst IsOneWriterHistory cut h) in
            let k : Known = known first upto (y ∷ (e.later ++ later)) in
            let writing : k.writing ≡ Some v = writing_of_progress first v upto (y ∷ (e.later ++ later)) p left.roles refl in
            let grown = known_grows (returning k.writing k) e.later later in
            let end : known first xs later ≡ known (returning k.writing k) e.later later = ap (λ es. known first es later) cut ∙ known-append first upto (y ∷ e.later) later in
            let returned : (known first xs later).returned ≡ k.returned ++ (v ∷ grown.0) =
            ap (λ (z : Known). z.returned) end ∙ grown.1 ∙ ap (λ o. (returning o k).returned ++ grown.0) writing ∙ append_assoc k.returned (v ∷ []) grown.0 in
            let all = returned_count first upto (y ∷ (e.later ++ later)) (ends_writes initial upto (y ∷ (e.later ++ later)) left) in
            let same = progress_writes v upto p left.roles in
            let number = w.number in
            value_at xs later n v k.returned (grown.0 ++ in_progress (known first xs later).writing)
            (ap (λ l. l ++ in_progress (known first xs later).writing) returned ∙ append_assoc k.returned (v ∷ grown.0) (in_progress (known first xs later).writing))
            (omega (arith, all, same, number))
      ]
    where
      h : IsOneWriterHistory xs
      h = history-left xs later whole

  module _ (history : List (ℕ × Event)) (h : IsOneWriterHistory history) (r : ReturnedRead history) where
    abbrev before : List (ℕ × Event)
    before = r.earlier ++ during r

    whole_history : IsOneWriterHistory (before ++ afterwards r)
    whole_history = subst IsOneWriterHistory r.split h

    -- how many writes had returned as a read was invoked
    since_is_returned_writes : (reading r.process (known_when_returned initial r)).since ≡ returned_writes r.earlier
    since_is_returned_writes =
        let left = history-left r.earlier (during r) (history-left before (afterwards r) whole_history) in
        ap (λ (x : Reading). x.since) (reading_of_progress r.process first r.earlier r.since (afterwards r) r.invoked r.quiet)
        ∙ returned_count first r.earlier (during r ++ afterwards r) (ends_writes initial r.earlier (during r ++ afterwards r) left) ∙ (omega arith)

    number_in_words : (n : ℕ) → IsNumber initial (known_when_returned initial r) r.process r.value n → NumbersRead initial n r
    number_in_words n is = record { low = (let s = since_is_returned_writes in let low = is.low in omega (arith, s, low)); write = by n is.high is.value_of }
      where
        by : (n : ℕ) → n < length (initial ∷ values before (afterwards r)) → get_or (initial ∷ values before (afterwards r)) n initial ≡ r.value
            → ((n ≡ 0) × (r.value ≡ initial)) ⊎ IsWrite n r.value before (afterwards r)
        by zero high value = inl (refl, sym value)
        by (suc m) high value =
            inr (subst (λ i. IsWrite i r.value before (afterwards r)) (let e : m + 1 ≡ suc m = omega arith in e) (write_of_value before (afterwards r) m r.value initial whole_history (omega (arith, high)) value))

    number_by_words : (n : ℕ) → NumbersRead initial n r → IsNumber initial (known_when_returned initial r) r.process r.value n
    number_by_words n w = by w.write
      where
        low : (reading r.process (known_when_returned initial r)).since ≤ n
        low = let s = since_is_returned_writes in let l = w.low in omega (arith, s, l)

        by : ((n ≡ 0) × (r.value ≡ initial)) ⊎ IsWrite n r.value before (afterwards r) → IsNumber initial (known_when_returned initial r) r.process r.value n
        by (inl z) = record {
          low = low;
          high = (let e : n ≡ 0 = z.0 in omega (arith, e));
          value_of = ap (λ i. get_or (by_number initial (known_when_returned initial r)) i initial) z.0 ∙ sym z.1;
        }
        by (inr write) = let v = value_of_write before (afterwards r) n r.value whole_history write in record { low = low; high = v.high; value_of = v.value }

  -- numbers for the returned reads of a history: `number i`, which is at least `floor`, is for the
  -- read that returns after i others, and is its number by `IsNumber`
  record NumbersOfReads (floor : ℕ) (k : Known) (history : List (ℕ × Event)) : Type 0 where
    number : ℕ → ℕ
    least : (i : ℕ) → floor ≤ number i
    rises : (i j : ℕ) → i ≤ j → number i ≤ number j
    each : (xs : List (ℕ × Event)) (i p v : ℕ) (ys : List (ℕ × Event)) → history ≡ xs ++ (i, Got p v) ∷ ys
        → IsNumber initial (known k xs ((i, Got p v) ∷ ys)) p v (number (returned_reads xs))

  abbrev Says : ℕ → Known → Event → Type 0
  Says n k e = OnReturn (λ k p x. IsNumber initial k p x n) k e

  -- a number for the first event, if this counts, and numbers for the others (`Numbered`)
  record FirstNumbered (counted : Bool) (floor : ℕ) (k : Known) (e : Event) (rest : List (ℕ × Event)) : Type 0 where
    n : ℕ
    low : floor ≤ n
    says : counted ≡ true → Says n k e
    others : Numbered initial n (noting counted e k) rest

  first_from_numbered : (counted : Bool) (floor : ℕ) (k : Known) (x : ℕ × Event) (xs : List (ℕ × Event)) → Numbered initial floor k (if counted then x ∷ xs else xs) → FirstNumbered counted floor k x.1 xs
  first_from_numbered true floor k x xs h = record { n = h.0; low = h.1.0; says = λ e. h.1.1.0; others = h.1.1.1 }
  first_from_numbered false floor k x xs h = record { n = floor; low = omega arith; says = λ e. absurd (true≢false (sym e)); others = h }

  numbered_lower : (floor n : ℕ) (k : Known) (xs : List (ℕ × Event)) → floor ≤ n → Numbered initial n k xs → Numbered initial floor k xs
  numbered_lower floor n k [] le h = tt
  numbered_lower floor n k (e ∷ es) le h = (h.0, (let l : n ≤ h.0 = h.1.0 in omega (arith, le, l), h.1.1))

  numbered_from_first : (counted : Bool) (floor : ℕ) (k : Known) (x : ℕ × Event) (xs : List (ℕ × Event)) → FirstNumbered counted floor k x.1 xs → Numbered initial floor k (if counted then x ∷ xs else xs)
  numbered_from_first true floor k x xs c = (c.n, (c.low, (c.says refl, c.others)))
  numbered_from_first false floor k x xs c = numbered_lower floor c.n k xs c.low c.others

  -- one more number in front, if the first event is a read's return
  abbrev with_first : Bool → ℕ → (ℕ → ℕ) → ℕ → ℕ
  with_first true n f zero = n
  with_first true n f (suc i) = f i
  with_first false n f i = f i

  with_first_least : (b : Bool) (floor n : ℕ) (f : ℕ → ℕ) → floor ≤ n → ((i : ℕ) → n ≤ f i) → (i : ℕ) → floor ≤ with_first b n f i
  with_first_least true floor n f low least zero = low
  with_first_least true floor n f low least (suc i) = let l = least i in omega (arith, low, l)
  with_first_least false floor n f low least i = let l = least i in omega (arith, low, l)

  with_first_rises : (b : Bool) (n : ℕ) (f : ℕ → ℕ) → ((i : ℕ) → n ≤ f i) → ((i j : ℕ) → i ≤ j → f i ≤ f j) → (i j : ℕ) → i ≤ j → with_first b n f i ≤ with_first b n f j
  with_first_rises true n f least rises zero zero le = omega arith
  with_first_rises true n f least rises zero (suc j) le = least j
  with_first_rises true n f least rises (suc i) zero le = let x : ⊥ = omega (arith, le) in absurd x
  with_first_rises true n f least rises (suc i) (suc j) le = rises i j (omega (arith, le))
  with_first_rises false n f least rises i j le = rises i j le

  with_first_next : (b : Bool) (n : ℕ) (f : ℕ → ℕ) (e : ℕ × Event) (es : List (ℕ × Event)) → f (length es) ≡ with_first b n f (length (cond b (e ∷ es) es))
  with_first_next true n f e es = ap (with_first true n f) (let l : suc (length es) ≡ length (e ∷ es) = omega arith in l)
  with_first_next false n f e es = refl

  numbers_with_first : (floor : ℕ) (k : Known) (e : ℕ × Event) (es : List (ℕ × Event)) (c : FirstNumbered (counts e.1 (is_refused es)) floor k e.1 (accepted es))
      → NumbersOfReads c.n (noting (counts e.1 (is_refused es)) e.1 k) es → NumbersOfReads floor k (e ∷ es)
  numbers_with_first floor k e es c g = record {
    number = with_first (is_got e.1) c.n g.number;
    least = with_first_least (is_got e.1) floor c.n g.number c.low g.least;
    rises = with_first_rises (is_got e.1) c.n g.number g.least g.rises;
    each = at;
  }
    where
      at : (xs : List (ℕ × Event)) (i p v : ℕ) (ys : List (ℕ × Event)) → e ∷ es ≡ xs ++ (i, Got p v) ∷ ys
          → IsNumber initial (known k xs ((i, Got p v) ∷ ys)) p v (with_first (is_got e.1) c.n g.number (returned_reads xs))
      at [] i p v ys s =
          let whole : e ≡ (i, Got p v) = cc s in
          let same : e.1 ≡ Got p v = ap (λ (x : ℕ × Event). x.1) whole in
          subst (IsNumber initial k p v) (sym (ap (λ x. with_first (is_got x) c.n g.number 0) same))
          (subst (Says c.n k) same (c.says (ap (λ x. counts x (is_refused es)) same)))
      at (x ∷ xs) i p v ys s =
          let whole : e ≡ x = cc s in
          let tails : es ≡ xs ++ (i, Got p v) ∷ ys = cc s in
          subst (λ y. IsNumber initial (known k (y ∷ xs) ((i, Got p v) ∷ ys)) p v (with_first (is_got e.1) c.n g.number (returned_reads (y ∷ xs)))) whole
          (subst (IsNumber initial (known k (e ∷ xs) ((i, Got p v) ∷ ys)) p v) (with_first_next (is_got e.1) c.n g.number e (filter (λ x. is_got x.1) xs))
          (subst (λ l. IsNumber initial (known (noting (counts e.1 (is_refused l)) e.1 k) xs ((i, Got p v) ∷ ys)) p v (g.number (returned_reads xs))) tails
          (g.each xs i p v ys tails)))

  numbers_from_numbered : (floor : ℕ) (k : Known) (history : List (ℕ × Event)) → Numbered initial floor k (accepted history) → NumbersOfReads floor k history
  numbers_from_numbered floor k [] h = record { number = λ i. floor; least = λ i. omega arith; rises = λ i j le. omega arith; each = λ xs i p v ys s. absurd (no_event xs (i, Got p v) ys s) }
  numbers_from_numbered floor k (e ∷ es) h =
      let c = first_from_numbered (counts e.1 (is_refused es)) floor k e (accepted es) h in
      numbers_with_first floor k e es c (numbers_from_numbered c.n (noting (counts e.1 (is_refused es)) e.1 k) es c.others)

  -- the number of the first event, if it is a read's return, and the numbers of the others
  abbrev first_of : Bool → ℕ → (ℕ → ℕ) → ℕ
  first_of true floor f = f 0
  first_of false floor f = floor

  abbrev without_first : Bool → (ℕ → ℕ) → ℕ → ℕ
  without_first true f i = f (suc i)
  without_first false f i = f i

  without_first_least : (b : Bool) (floor : ℕ) (f : ℕ → ℕ) → ((i : ℕ) → floor ≤ f i) → ((i j : ℕ) → i ≤ j → f i ≤ f j) → (i : ℕ) → first_of b floor f ≤ without_first b f i
  without_first_least true floor f least rises i = rises 0 (suc i) (omega arith)
  without_first_least false floor f least rises i = least i

  without_first_rises : (b : Bool) (f : ℕ → ℕ) → ((i j : ℕ) → i ≤ j → f i ≤ f j) → (i j : ℕ) → i ≤ j → without_first b f i ≤ without_first b f j
  without_first_rises true f rises i j le = rises (suc i) (suc j) (omega (arith, le))
  without_first_rises false f rises i j le = rises i j le

  without_first_next : (b : Bool) (f : ℕ → ℕ) (e : ℕ × Event) (es : List (ℕ × Event)) → f (length (cond b (e ∷ es) es)) ≡ without_first b f (length es)
  without_first_next true f e es = ap f (let l : length (e ∷ es) ≡ suc (length es) = omega arith in l)
  without_first_next false f e es = refl

  first_of_least : (b : Bool) (floor : ℕ) (f : ℕ → ℕ) → ((i : ℕ) → floor ≤ f i) → floor ≤ first_of b floor f
  first_of_least true floor f least = least 0
  first_of_least false floor f least = omega arith

  first_of_says : (floor : ℕ) (k : Known) (i : ℕ) (e : Event) (es : List (ℕ × Event)) (g : NumbersOfReads floor k ((i, e) ∷ es)) → Says (first_of (is_got e) floor g.number) k e
  first_of_says floor k i (Got p v) es g = g.each [] i p v es refl
  first_of_says floor k i e es g = tt

  numbers_without_first : (floor : ℕ) (k : Known) (e : ℕ × Event) (es : List (ℕ × Event)) (g : NumbersOfReads floor k (e ∷ es))
      → NumbersOfReads (first_of (is_got e.1) floor g.number) (noting (counts e.1 (is_refused es)) e.1 k) es
  numbers_without_first floor k e es g = record {
    number = without_first (is_got e.1) g.number;
    least = without_first_least (is_got e.1) floor g.number g.least g.rises;
    rises = without_first_rises (is_got e.1) g.number g.rises;
    each = λ xs i p v ys s.
        subst (IsNumber initial (known (noting (counts e.1 (is_refused es)) e.1 k) xs ((i, Got p v) ∷ ys)) p v) (without_first_next (is_got e.1) g.number e (filter (λ x. is_got x.1) xs))
        (subst (λ l. IsNumber initial (known (noting (counts e.1 (is_refused l)) e.1 k) xs ((i, Got p v) ∷ ys)) p v (g.number (returned_reads (e ∷ xs)))) (sym s)
        (g.each (e ∷ xs) i p v ys (ap (λ l. e ∷ l) s)));
  }

  numbered_from_numbers : (floor : ℕ) (k : Known) (history : List (ℕ × Event)) → NumbersOfReads floor k history → Numbered initial floor k (accepted history)
  numbered_from_numbers floor k [] g = tt
  numbered_from_numbers floor k (e ∷ es) g =
      let n = first_of (is_got e.1) floor g.number in
      let counted = counts e.1 (is_refused es) in
      numbered_from_first counted floor k e (accepted es) (record {
        n = n;
        low = first_of_least (is_got e.1) floor g.number g.least;
        says = λ c. first_of_says floor k e.0 e.1 es g;
        others = numbered_from_numbers n (noting counted e.1 k) es (numbers_without_first floor k e es g);
      })

  module _ (history : List (ℕ × Event)) (h : IsOneWriterHistory history) where
    numbered_in_words : Numbered initial 0 first (accepted history) → AreNumbered initial history
    numbered_in_words numbered =
        let g = numbers_from_numbered 0 first history numbered in
        record {
          number = g.number;
          rises = g.rises;
          each = λ r. number_in_words history h r _ (g.each (r.earlier ++ during r) r.returned r.process r.value r.later r.split);
        }

    numbered_by_words : AreNumbered initial history → Numbered initial 0 first (accepted history)
    numbered_by_words a = numbered_from_numbers 0 first history (record {
      number = a.number;
      least = λ i. omega arith;
      rises = a.rises;
      each = λ xs i p v ys s.
          let w = h.follows xs i (Got p v) ys s in
          let r = read_of history xs i p v ys s w in
          subst (λ l. IsNumber initial (known first l ((i, Got p v) ∷ ys)) p v (a.number (returned_reads l))) (sym w.split) (number_by_words history h r _ (a.each r));
    })

-- the two definitions of an atomic register are equivalent
pub atomic_words_alike : {P : Type 0} (b : Behaviour P) → (HasOneWriter b → RecordsOneWriter b) → IsAtomic b ↔ IsAtomicInWords b
atomic_words_alike b records = (
  λ h. record {
    one_writer = h.one_writer;
    one_reader = h.one_reader;
    numbered = λ value steps within fit. numbered_in_words value (recorded b value steps) (records h.one_writer value steps within fit) (h.numbered value steps within fit);
  },
  λ h. record {
    one_writer = h.one_writer;
    one_reader = h.one_reader;
    numbered = λ value steps within fit. numbered_by_words value (recorded b value steps) (records h.one_writer value steps within fit) (h.numbered value steps within fit);
  },
)
