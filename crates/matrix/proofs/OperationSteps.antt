-- The invocation of an operation, the ends of its column and of its row, and its refusal keep the
-- invariant.
use Rattle.std.proofs.Common.{◌≡◌, ℕ, zero, suc, ◌+◌, ◌*◌, ◌<◌, ◌≤◌, ◌==◌, max, Bool, true, false, ◌∷◌, List, Option, Some, None, IsTrue, inl, inr, refl, sym, ap, subst, ◌∙◌, arith, eq-eqb, eqb-true, lt-ltb, ltb-true, ltb-false, ne_eqb}
use Rattle.std.specs.Prelude.{◌/◌, ◌⊎◌, ⊤, nat_lt, if◌then◌else◌, length}
use Rattle.std.proofs.lemmas.Bool.{cases_eq, cases_lt}
use Rattle.std.proofs.lemmas.Option.{same_Some}
use Rattle.frames.specs.declared.types.Op.{Op}
use Rattle.frames.specs.declared.types.Op.TheVariants.{Read, Write}
use Rattle.frames.proofs.Seen.{Seen}
use Rattle.frames.proofs.Pointwise.{put, put_same, put_other, put_all}
use Rattle.matrix.proofs.Codes.{writer_of}
use Rattle.matrix.proofs.CodedHistory.{Coded, IsKnownCode, returned, is_write, counts_after, values_after, invoked, after_refusal, took_code, own_code_taken, own_other_codes, others_codes, known_after_taking}
use Rattle.matrix.proofs.Phases.{Phase, Rests, WillRead, IsReading, WillWrite, IsWriting, PartShows, WritesCode, HasNoCode, HasTakenCode, KnowsColumn, ReadsPart, WritesRow, HoldsInPhase, Invariant, StaysFor, OverlapsGrow, holds_in_phase_later}
use Rattle.matrix.proofs.PhaseSteps.{moves_in_place, taken_in_any_phase, recodes_same, invariant_after}

-- no process holds a lower code once p holds a code no lower than its own
held_rises : (p x : ℕ) (c : Coded) → c.held p ≤ x → (a : ℕ) → c.held a ≤ put p x c.held a
held_rises p x c le = put_all (λ a y. c.held a ≤ y) p x c.held le (λ a ne. omega arith)

-- p's operation returns once p has written x to its whole row
pub row_done : (n V p : ℕ) (c : Coded) (o : Op) (x : ℕ) (f : ℕ → Phase) (parts : ℕ → Seen) → p < n → f p ≡ WillWrite o n x → Invariant n V c f parts
    → Invariant n V (returned p x c) (put p Rests f) parts
row_done n V p c o x f parts lp is h =
    let w : WritesRow c p o x = subst (HoldsInPhase n c p parts) is (h.works p lp) in
    let le : c.held p ≤ x = w.held in
    let d : Coded = returned p x c in
    let mine : d.held p ≡ x = put_same p x c.held in
    invariant_after n V p c d (WillWrite o n x) Rests f parts parts lp is h
    (moves_in_place n V p c d (WillWrite o n x) Rests parts
    (λ b lb e. (e.0 ∙ ap (λ z. if z then x else c.held p) (lt-ltb b n lb) ∙ sym mine, (e.1.0, e.1.1 ∙ ap (λ z. if z then c.rows p + 1 else c.rows p) (lt-ltb b n lb) ∙ sym (put_same p (c.rows p + 1) c.rows))))
    (λ t k y e. let u = t k y e in (u.0, elim (u.1) [ inl r ↦ inl (omega (arith, r, le, mine)) | inr r ↦ inl (omega (arith, r, mine)) ]))
    tt)
    (record {
      top = elim (cases_lt x c.top) [
        | inl lt ↦ (let t = h.top in let r : c.held t.0 ≤ d.held t.0 = held_rises p x c le t.0 in let u : c.top ≤ c.held t.0 = t.1.1 in (t.0, (t.1.0, omega (arith, lt, r, u))))
        | inr ge ↦ (p, (lp, omega (arith, ge, mine)))
      ];
      known = subst (IsKnownCode c) (sym mine) w.known;
      below = λ a la. (let r : c.held a ≤ d.held a = held_rises p x c le a in let u : c.held_at_start p a ≤ c.held a = h.below p a la in omega (arith, r, u));
      later = h.later p;
      others = λ q ne. record {
        held = λ a la. held_rises p x c le a;
        own = sym (put_other p q x c.held ne);
        held_at_start = λ a. refl;
        floor = refl;
        value = refl;
        count = refl;
        code = λ k. refl;
        writing = sym (put_other p q false c.writing ne);
        limit = refl;
        rows = sym (put_other p q (c.rows p + 1) c.rows ne);
        known = λ y k. k;
      };
    })

-- p invokes operation o
pub invocation_keeps : (n V p : ℕ) (c : Coded) (o : Op) (f : ℕ → Phase) (parts : ℕ → Seen) → p < n → f p ≡ Rests → Invariant n V c f parts
    → Invariant n V (invoked p o c) (put p (WillRead o 0 0) f) parts
invocation_keeps n V p c o f parts lp is h =
    let d : Coded = invoked p o c in
    let at : (a : ℕ) → d.held_at_start p a ≡ c.held a = λ a. ap (λ (g : ℕ → ℕ). g a) (put_same p c.held c.held_at_start) in
    invariant_after n V p c d Rests (WillRead o 0 0) f parts parts lp is h
    (moves_in_place n V p c d Rests (WillRead o 0 0) parts (λ b lb e. e) (λ t. t) (record {
      own = at p;
      witness = (let t = h.top in let u : c.top ≤ c.held t.0 = t.1.1 in let e : d.held_at_start p t.0 ≡ c.held t.0 = at t.0 in let r : d.floor p ≡ c.top = put_same p c.top c.floor in (t.0, (t.1.0, omega (arith, u, e, r))));
      at_least = λ a la. absurd (omega (arith, la));
      greatest_known = inl (refl, refl);
      free = free o;
    }))
    (record {
      top = h.top;
      known = h.known p lp;
      below = λ a la. (let e : d.held_at_start p a ≡ c.held a = at a in omega (arith, e));
      later = λ k lt. h.later p k (let r : c.count p ≤ d.count p = no_fewer o in omega (arith, r, lt));
      others = λ q ne. (let same = others_same q o ne in record {
        held = λ a la. omega arith;
        own = refl;
        held_at_start = λ a. ap (λ (g : ℕ → ℕ). g a) (sym (put_other p q c.held c.held_at_start ne));
        floor = sym (put_other p q c.top c.floor ne);
        value = same.1;
        count = same.0;
        code = λ k. refl;
        writing = sym (put_other p q (is_write o) c.writing ne);
        limit = refl;
        rows = refl;
        known = λ y k. k;
      });
    })
  where
    no_fewer : (o : Op) → c.count p ≤ counts_after p o c p
    no_fewer (Write v) = let more : counts_after p (Write v) c p ≡ c.count p + 1 = put_same p (c.count p + 1) c.count in omega (arith, more)
    no_fewer Read = omega arith

    others_same : (q : ℕ) (o : Op) → (q ≡ p → ⊥) → (c.count q ≡ counts_after p o c q) × (c.value q ≡ values_after p o c q)
    others_same q (Write v) ne = (sym (put_other p q (c.count p + 1) c.count ne), sym (put_other p q v c.value ne))
    others_same q Read ne = (refl, refl)

    free : (o : Op) → HasNoCode (invoked p o c) p o
    free (Write v) = (ap (c.code p) (put_same p (c.count p + 1) c.count) ∙ h.later p (c.count p + 1) (omega arith), put_same p v c.value, put_same p true c.writing)
    free Read = put_same p false c.writing

-- before part 0 of a row is written, the row is as it was
row_unwritten : (h x b : ℕ) → h ≡ (if nat_lt b 0 then x else h)
row_unwritten h x b = go (nat_lt b 0) refl
  where
    go : (u : Bool) → nat_lt b 0 ≡ u → h ≡ (if u then x else h)
    go true e = absurd (let p = ltb-true b 0 e in omega (arith, p))
    go false e = refl

-- each part of p's row shows the same before and after p goes on from its column to the row
shows_before_row : (n p g : ℕ) (c : Coded) (o : Op) (x b : ℕ) (s : Seen) → PartShows (c.held p) (c.rows p) (WillRead o n g) b s → PartShows (c.held p) (c.rows p) (WillWrite o 0 x) b s
shows_before_row n p g c o x b s e = (e.0 ∙ row_unwritten (c.held p) x b, (e.1.0, e.1.1 ∙ row_unwritten (c.rows p) (c.rows p + 1) b))

-- the greatest code of a whole column is known
greatest_is_known : (n j g : ℕ) (c : Coded) → 1 ≤ n → j ≡ n → ((j ≡ 0) × (g ≡ 0)) ⊎ IsKnownCode c g → IsKnownCode c g
greatest_is_known n j g c some e h = elim h [ inl z ↦ absurd (let r : j ≡ 0 = z.0 in omega (arith, some, e, r)) | inr k ↦ k ]

-- g, the greatest code in p's column, is no lower than p's floor, the greatest code returned before
-- p's operation began
pub floor_at_most : (n p g : ℕ) (c : Coded) (o : Op) → KnowsColumn n c p o n g → c.floor p ≤ g
floor_at_most n p g c o w = let t = w.witness in let u : c.floor p ≤ c.held_at_start p t.0 = t.1.1 in let v : c.held_at_start p t.0 ≤ g = w.at_least t.0 t.1.0 in omega (arith, u, v)

-- g is no lower than the code that p last wrote to its whole row
pub held_at_most : (n p g : ℕ) (c : Coded) (o : Op) → p < n → KnowsColumn n c p o n g → c.held p ≤ g
held_at_most n p g c o lp w = let u : c.held_at_start p p ≡ c.held p = w.own in let v : c.held_at_start p p ≤ g = w.at_least p lp in omega (arith, u, v)

-- a read that has read its whole column goes on to write g, its greatest code, to the row
pub read_reaches_row : (n V p : ℕ) (c : Coded) (g : ℕ) (f : ℕ → Phase) (parts : ℕ → Seen) → p < n → f p ≡ WillRead Read n g → c.limit (c.rows p) ≡ true → Invariant n V c f parts → Invariant n V c (put p (WillWrite Read 0 g) f) parts
read_reaches_row n V p c g f parts lp is room h =
    let w : KnowsColumn n c p Read n g = subst (HoldsInPhase n c p parts) is (h.works p lp) in
    invariant_after n V p c c (WillRead Read n g) (WillWrite Read 0 g) f parts parts lp is h
    (moves_in_place n V p c c (WillRead Read n g) (WillWrite Read 0 g) parts (λ b lb e. shows_before_row n p g c Read g b (parts (p * n + b)) e) (taken_in_any_phase n V p c Read n g (WillWrite Read 0 g))
    (record { held = held_at_most n p g c Read lp w; floor = floor_at_most n p g c Read w; known = greatest_is_known n n g c (omega (arith, lp)) refl w.greatest_known; took = w.free; room = room }))
    (recodes_same n V p c f parts lp h)

-- p's operation is refused while p has yet to write its row
pub refusal_keeps : (n V p : ℕ) (c : Coded) (o : Op) (j g : ℕ) (f : ℕ → Phase) (parts : ℕ → Seen) → p < n → f p ≡ WillRead o j g → Invariant n V c f parts → Invariant n V (after_refusal p c) (put p Rests f) parts
refusal_keeps n V p c o j g f parts lp is h =
    invariant_after n V p c (after_refusal p c) (WillRead o j g) Rests f parts parts lp is h (moves_in_place n V p c (after_refusal p c) (WillRead o j g) Rests parts (λ b lb e. e) (λ t. t) tt)
    (record { top = h.top; known = h.known p lp; below = h.below p; later = h.later p; others = λ q ne. record { held = λ a la. omega arith; own = refl; held_at_start = λ a. refl; floor = refl; value = refl; count = refl; code = λ k. refl; writing = sym (put_other p q false c.writing ne); limit = refl; rows = refl; known = λ y k. k } })

-- a write that has read its whole column takes a code z above its greatest code g, and goes on to
-- write z to its row
pub write_reaches_row : (n V p : ℕ) (c : Coded) (v g z : ℕ) (f : ℕ → Phase) (parts : ℕ → Seen) → p < n → f p ≡ WillRead (Write v) n g → g < z → writer_of n V z ≡ p → c.limit (c.rows p) ≡ true → Invariant n V c f parts
    → Invariant n V (took_code p z c) (put p (WillWrite (Write v) 0 z) f) parts
write_reaches_row n V p c v g z f parts lp is above names room h =
    let w : KnowsColumn n c p (Write v) n g = subst (HoldsInPhase n c p parts) is (h.works p lp) in
    let d : Coded = took_code p z c in
    let low : c.held p ≤ g = held_at_most n p g c (Write v) lp w in
    let base : c.floor p ≤ g = floor_at_most n p g c (Write v) w in
    let lift : (y : ℕ) → IsKnownCode c y → IsKnownCode d y = known_after_taking p z c w.free.0 in
    invariant_after n V p c d (WillRead (Write v) n g) (WillWrite (Write v) 0 z) f parts parts lp is h
    (moves_in_place n V p c d (WillRead (Write v) n g) (WillWrite (Write v) 0 z) parts (λ b lb e. shows_before_row n p g c (Write v) z b (parts (p * n + b)) e)
    (λ t k y e. elim (cases_eq k (c.count p)) [
      | inl i ↦
          (let same : z ≡ y = same_Some z y (sym (own_code_taken p z c) ∙ ap (d.code p) (sym i) ∙ e) in
          (ap (writer_of n V) (sym same) ∙ names, inr same))
      | inr ne ↦ taken_in_any_phase n V p c (Write v) n g (WillWrite (Write v) 0 z) t k y (sym (own_other_codes p z k c ne) ∙ e)
    ])
    (record { held = omega (arith, low, above); floor = omega (arith, base, above); known = inr (p, (c.count p, own_code_taken p z c)); took = (own_code_taken p z c, w.free.2); room = room }))
    (record {
      top = h.top;
      known = lift (c.held p) (h.known p lp);
      below = h.below p;
      later = λ k lt. own_other_codes p z k c (λ e. omega (arith, e, lt)) ∙ h.later p k lt;
      others = λ q ne. record { held = λ a la. omega arith; own = refl; held_at_start = λ a. refl; floor = refl; value = refl; count = refl; code = λ k. sym (others_codes p z q k c ne); writing = refl; limit = refl; rows = refl; known = lift };
    })

-- no write has taken such a code z before
pub code_new : (n V p : ℕ) (c : Coded) (v g z : ℕ) (f : ℕ → Phase) (parts : ℕ → Seen) → p < n → f p ≡ WillRead (Write v) n g → g < z → writer_of n V z ≡ p → Invariant n V c f parts
    → (q k : ℕ) → c.code q k ≡ Some z → ⊥
code_new n V p c v g z f parts lp is above names h q k e =
    let w : KnowsColumn n c p (Write v) n g = subst (HoldsInPhase n c p parts) is (h.works p lp) in
    let low : c.held p ≤ g = held_at_most n p g c (Write v) lp w in
    let t = h.taken q k z e in
    let same : q ≡ p = sym t.1.0 ∙ names in
    let u : (z ≤ c.held p) ⊎ ⊥ = subst (λ x. (z ≤ c.held p) ⊎ WritesCode x z) is (subst (λ q. (z ≤ c.held q) ⊎ WritesCode (f q) z) same t.1.1) in
    elim u [ inl r ↦ omega (arith, r, low, above) | inr r ↦ r ]
