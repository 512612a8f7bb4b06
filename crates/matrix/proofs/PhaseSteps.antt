-- How a process moves from one phase to another; and that the reads and writes of parts, as they
-- begin and end, keep the invariant.
use Rattle.std.proofs.Common.{◌≡◌, ℕ, zero, suc, ◌+◌, ◌*◌, ◌%◌, ◌<◌, ◌≤◌, ◌==◌, max, Bool, true, false, ◌∷◌, List, Option, Some, None, IsTrue, inl, inr, refl, sym, ap, subst, ◌∙◌, arith, eq-eqb, eqb-true, lt-ltb, ltb-true, ltb-false, ne_eqb}
use Rattle.std.specs.Prelude.{◌/◌, ◌⊎◌, ⊤, ◌||◌, nat_lt, if◌then◌else◌, length}
use Rattle.std.proofs.lemmas.Bool.{cases_eq, cases_lt}
use Rattle.std.proofs.lemmas.Nat.{div-mul-add, mod-mul-add}
use Rattle.frames.specs.declared.types.Op.{Op}
use Rattle.frames.specs.declared.types.Op.TheVariants.{Read, Write}
use Rattle.frames.specs.declared.types.Event.TheVariants.{Invoke, Got, Wrote}
use Rattle.frames.specs.correctness.Regularity.{in_progress}
use Rattle.frames.proofs.Seen.{Seen, among, sees, now_last, IsNotStray}
use Rattle.frames.proofs.VerdictFacts.{fresh_or_overlapping}
use Rattle.frames.proofs.Pointwise.{put, put_same, put_other, put_all}
use Rattle.matrix.proofs.Codes.{writer_of}
use Rattle.matrix.proofs.CodedHistory.{Coded, IsKnownCode, greatest_so_far_known}
use Rattle.matrix.proofs.Phases.{Phase, Rests, WillRead, IsReading, WillWrite, IsWriting, row_last, row_writing, row_count, PartShows, WritesCode, HasNoCode, HasTakenCode, KnowsColumn, ReadsPart, WritesRow, HoldsInPhase, Invariant, StaysFor, stays_for_same, OverlapsGrow, overlaps_same, holds_in_phase_later}

-- the codes that p's writes have taken name p, and each is at most the code that p holds, or is
-- being written to p's row
abbrev pub TakenBy : ℕ → ℕ → Coded → ℕ → Phase → Type 0
TakenBy n V c p x = (k y : ℕ) → c.code p k ≡ Some y → (writer_of n V y ≡ p) × ((y ≤ c.held p) ⊎ WritesCode x y)

-- while p is to read its column, all its codes are at most what it holds, so `TakenBy` holds in any
-- phase x
pub taken_in_any_phase : (n V p : ℕ) (c : Coded) (o : Op) (j g : ℕ) (x : Phase) → TakenBy n V c p (WillRead o j g) → TakenBy n V c p x
taken_in_any_phase n V p c o j g x t k y e = let u = t k y e in (u.0, elim (u.1) [ inl r ↦ inl r | inr r ↦ absurd r ])

-- s and t show the same of a part's writes
pub record SameWrites (s t : Seen) : Type 0 where
  pub last : t.last ≡ s.last
  pub writing : t.writing ≡ s.writing
  pub count : length (t.overlaps 0) ≡ length (s.overlaps 0)

-- a part shows the same of its writes as itself
same_writes_refl : (s : Seen) → SameWrites s s
same_writes_refl s = record { last = refl; writing = refl; count = refl }

-- Process p goes from phase z to phase x. Its row, its codes and its work are then as x says, and
-- other rows are as they were.
pub record Moves (n V p : ℕ) (c d : Coded) (z x : Phase) (parts to : ℕ → Seen) : Type 0 where
  pub row : (b : ℕ) → b < n → PartShows (c.held p) (c.rows p) z b (parts (p * n + b)) → PartShows (d.held p) (d.rows p) x b (to (p * n + b))
  pub apart : (a b : ℕ) → a < n → b < n → (a ≡ p → ⊥) → SameWrites (parts (a * n + b)) (to (a * n + b))
  pub taken : TakenBy n V c p z → TakenBy n V d p x
  pub more : (q a : ℕ) → q < n → a < n → (q ≡ p → ⊥) → OverlapsGrow d q a (parts (a * n + q)) (to (a * n + q))
  pub works : HoldsInPhase n d p to x

-- p goes from phase z to phase x, and no part changes
pub moves_in_place : (n V p : ℕ) (c d : Coded) (z x : Phase) (parts : ℕ → Seen) → ((b : ℕ) → b < n → PartShows (c.held p) (c.rows p) z b (parts (p * n + b)) → PartShows (d.held p) (d.rows p) x b (parts (p * n + b)))
    → (TakenBy n V c p z → TakenBy n V d p x) → HoldsInPhase n d p parts x → Moves n V p c d z x parts parts
moves_in_place n V p c d z x parts row taken works = record { row = row; apart = λ a b la lb ne. same_writes_refl (parts (a * n + b)); taken = taken; more = λ q a lq la ne. overlaps_same d q a (parts (a * n + q)); works = works }

-- what is known of codes changes from c to d, and what the processes other than p rely on stays
pub record Recodes (n p : ℕ) (c d : Coded) : Type 0 where
  pub top : (a : ℕ) × ((a < n) × (d.top ≤ d.held a))
  pub known : IsKnownCode d (d.held p)
  pub below : (a : ℕ) → a < n → d.held_at_start p a ≤ d.held a
  pub later : (k : ℕ) → d.count p < k → d.code p k ≡ None
  pub others : (q : ℕ) → (q ≡ p → ⊥) → StaysFor n q c d

-- nothing that is known of codes changes
pub recodes_same : (n V p : ℕ) (c : Coded) (f : ℕ → Phase) (parts : ℕ → Seen) → p < n → Invariant n V c f parts → Recodes n p c c
recodes_same n V p c f parts lp h = record { top = h.top; known = h.known p lp; below = h.below p; later = h.later p; others = λ q ne. stays_for_same n q c }

-- the invariant holds after p moves from phase z to phase x, and what is known of codes changes
pub invariant_after : (n V p : ℕ) (c d : Coded) (z x : Phase) (f : ℕ → Phase) (parts to : ℕ → Seen) → p < n → f p ≡ z → Invariant n V c f parts → Moves n V p c d z x parts to → Recodes n p c d → Invariant n V d (put p x f) to
invariant_after n V p c d z x f parts to lp is h move m = record {
  row = λ a b la lb. put_all (λ a y. a < n → PartShows (d.held a) (d.rows a) y b (to (a * n + b))) p x f
      (λ l. move.row b lb (subst (λ y. PartShows (c.held p) (c.rows p) y b (parts (p * n + b))) is (h.row p b lp lb)))
      (λ a ne l. let s = move.apart a b l lb ne in let t = h.row a b l lb in let own = m.others a ne in
      (s.last ∙ t.0 ∙ ap (λ z. row_last z (f a) b) own.own, (s.writing ∙ t.1.0, s.count ∙ t.1.1 ∙ ap (λ z. row_count z (f a) b) own.rows))) a la;
  top = m.top;
  known = λ a la. elim (cases_eq a p) [
    | inl e ↦ subst (λ a. IsKnownCode d (d.held a)) (sym e) m.known
    | inr ne ↦ subst (IsKnownCode d) (m.others a ne).own ((m.others a ne).known (c.held a) (h.known a la))
  ];
  taken = λ q k y. put_all (λ q z. d.code q k ≡ Some y → (q < n) × ((writer_of n V y ≡ q) × ((y ≤ d.held q) ⊎ WritesCode z y))) p x f
      (λ e. (lp, move.taken (λ k y e. subst (λ w. (writer_of n V y ≡ p) × ((y ≤ c.held p) ⊎ WritesCode w y)) is (h.taken p k y e).1) k y e))
      (λ q ne e. let t = h.taken q k y ((m.others q ne).code k ∙ e) in
      (t.0, (t.1.0, subst (λ z. (y ≤ z) ⊎ WritesCode (f q) y) (m.others q ne).own t.1.1))) q;
  below = λ q a la. elim (cases_eq q p) [
    | inl e ↦ subst (λ q. d.held_at_start q a ≤ d.held a) (sym e) (m.below a la)
    | inr ne ↦ (let l = m.others q ne in let u : c.held_at_start q a ≡ d.held_at_start q a = l.held_at_start a in let v : c.held a ≤ d.held a = l.held a la in let w : c.held_at_start q a ≤ c.held a = h.below q a la in omega (arith, u, v, w))
  ];
  later = λ q k lt. elim (cases_eq q p) [
    | inl e ↦ ap (λ q. d.code q k) e ∙ m.later k (let s = ap d.count e in omega (arith, s, lt))
    | inr ne ↦ sym ((m.others q ne).code k) ∙ h.later q k (let s = (m.others q ne).count in omega (arith, s, lt))
  ];
  works = λ q lq. put_all (λ q z. q < n → HoldsInPhase n d q to z) p x f (λ l. move.works)
      (λ q ne l. holds_in_phase_later n q c d parts to l (m.others q ne) (λ a la. move.more q a l la ne) (f q) (h.works q l)) q lq;
}

-- parts in different rows or columns have different numbers
part_numbers_apart : (n a b d e : ℕ) → b < n → e < n → (a ≡ d → b ≡ e → ⊥) → a * n + b ≡ d * n + e → ⊥
part_numbers_apart n a b d e lb le ne same =
    ne (sym (div-mul-add a n b lb) ∙ ap (λ x. x / n) same ∙ div-mul-add d n e le) (sym (mod-mul-add a n b lb) ∙ ap (λ x. x % n) same ∙ mod-mul-add d n e le)

-- process p invokes the read of part j of its column
pub column_asked : (n V p : ℕ) (c : Coded) (o : Op) (j g : ℕ) (f : ℕ → Phase) (parts : ℕ → Seen) → p < n → j < n → f p ≡ WillRead o j g → Invariant n V c f parts
    → Invariant n V c (put p (IsReading o j g) f) (put (j * n + p) (sees (Some (Invoke 1 Read)) (parts (j * n + p))) parts)
column_asked n V p c o j g f parts lp lj is h =
    let k : ℕ = j * n + p in
    let s : Seen = sees (Some (Invoke 1 Read)) (parts k) in
    let to : ℕ → Seen = put k s parts in
    let same : (i : ℕ) → SameWrites (parts i) (to i) = put_all (λ i t. SameWrites (parts i) t) k s parts (record { last = refl; writing = refl; count = refl }) (λ i ne. same_writes_refl (parts i)) in
    let knows : KnowsColumn n c p o j g = subst (HoldsInPhase n c p parts) is (h.works p lp) in
    let low : c.held_at_start p j ≤ c.held j = h.below p j lj in
    invariant_after n V p c c (WillRead o j g) (IsReading o j g) f parts to lp is h (record {
      row = λ b lb e. (let t = same (p * n + b) in (t.last ∙ e.0, (t.writing ∙ e.1.0, t.count ∙ e.1.1)));
      apart = λ a b la lb ne. same (a * n + b);
      taken = λ t. t;
      more = λ q a lq la ne. subst (OverlapsGrow c q a (parts (a * n + q))) (sym (put_other k (a * n + q) s parts (part_numbers_apart n a q j p lq lp (λ e d. ne d)))) (overlaps_same c q a (parts (a * n + q)));
      works = (
        knows,
        subst (ReadsPart n c p j) (sym (put_same k s parts)) (record {
          part = lj;
          fresh = fresh_known (f j) low (h.row j p lj lp).0 refl;
          overlaps = λ y m. over_known (f j) y low (h.row j p lj lp).1.0 refl m;
        }),
      );
    }) (recodes_same n V p c f parts lp h)
  where
    -- what was last written to this part is no lower than what its writer held
    fresh_known : (x : Phase) → c.held_at_start p j ≤ c.held j → (parts (j * n + p)).last ≡ row_last (c.held j) (f j) p → f j ≡ x → (c.held_at_start p j ≤ (parts (j * n + p)).last) × IsKnownCode c ((parts (j * n + p)).last)
    fresh_known x low e ex = go x (e ∙ ap (λ z. row_last (c.held j) z p) ex) (subst (HoldsInPhase n c j parts) ex (h.works j lj))
      where
        as_held : (parts (j * n + p)).last ≡ c.held j → (c.held_at_start p j ≤ (parts (j * n + p)).last) × IsKnownCode c ((parts (j * n + p)).last)
        as_held e = (omega (arith, low, e), subst (IsKnownCode c) (sym e) (h.known j lj))

        as_row : (i y : ℕ) (b : Bool) → c.held j ≤ y → IsKnownCode c y → (parts (j * n + p)).last ≡ (if b then y else c.held j) → (c.held_at_start p j ≤ (parts (j * n + p)).last) × IsKnownCode c ((parts (j * n + p)).last)
        as_row i y true u r e = (omega (arith, low, u, e), subst (IsKnownCode c) (sym e) r)
        as_row i y false u r e = as_held e

        go : (x : Phase) → (parts (j * n + p)).last ≡ row_last (c.held j) x p → HoldsInPhase n c j parts x → (c.held_at_start p j ≤ (parts (j * n + p)).last) × IsKnownCode c ((parts (j * n + p)).last)
        go Rests e w = as_held e
        go (WillRead q i z) e w = as_held e
        go (IsReading q i z) e w = as_held e
        go (WillWrite q i y) e w = as_row i y (nat_lt p i) w.held w.known e
        go (IsWriting q i y) e w = as_row i y (nat_lt p i) w.held w.known e

    -- what is being written to this part, if anything is, is no lower than what its writer held
    over_known : (x : Phase) (y : ℕ) → c.held_at_start p j ≤ c.held j → (parts (j * n + p)).writing ≡ row_writing (f j) p → f j ≡ x → IsTrue (among y (in_progress (parts (j * n + p)).writing)) → (c.held_at_start p j ≤ y) × IsKnownCode c y
    over_known x y low e ex m = go x (e ∙ ap (λ z. row_writing z p) ex) (subst (HoldsInPhase n c j parts) ex (h.works j lj))
      where
        nothing : (parts (j * n + p)).writing ≡ None → (c.held_at_start p j ≤ y) × IsKnownCode c y
        nothing e = absurd (let u : IsTrue (among y (in_progress None)) = subst (λ w. IsTrue (among y (in_progress w))) e m in cc)

        one : (z : ℕ) → c.held j ≤ z → IsKnownCode c z → IsTrue (among y (in_progress (Some z))) → (c.held_at_start p j ≤ y) × IsKnownCode c y
        one z u k m = by (z == y) refl m
          where
            by : (b : Bool) → (z == y) ≡ b → IsTrue (b || false) → (c.held_at_start p j ≤ y) × IsKnownCode c y
            by true e m = (let s : z ≡ y = eqb-true z y e in (omega (arith, low, u, s), subst (IsKnownCode c) s k))
            by false e m = absurd (cc m)

        some : (z : ℕ) (b : Bool) → c.held j ≤ z → IsKnownCode c z → (parts (j * n + p)).writing ≡ (if b then Some z else None) → (c.held_at_start p j ≤ y) × IsKnownCode c y
        some z true u k e = one z u k (subst (λ w. IsTrue (among y (in_progress w))) e m)
        some z false u k e = nothing e

        go : (x : Phase) → (parts (j * n + p)).writing ≡ row_writing x p → HoldsInPhase n c j parts x → (c.held_at_start p j ≤ y) × IsKnownCode c y
        go Rests e w = nothing e
        go (WillRead q i z) e w = nothing e
        go (IsReading q i z) e w = nothing e
        go (WillWrite q i z) e w = nothing e
        go (IsWriting q i z) e w = some z (p == i) w.held w.known e

-- the read of part j gives x
pub column_given : (n V p : ℕ) (c : Coded) (o : Op) (j g x : ℕ) (f : ℕ → Phase) (parts : ℕ → Seen) → p < n → f p ≡ IsReading o j g → Invariant n V c f parts
    → IsNotStray (record { reader = 1; value = x; fresh = (parts (j * n + p)).fresh 1; overlaps = (parts (j * n + p)).overlaps 1 })
    → Invariant n V c (put p (WillRead o (j + 1) (max g x)) f) parts
column_given n V p c o j g x f parts lp is h good =
    let w : KnowsColumn n c p o j g × ReadsPart n c p j (parts (j * n + p)) = subst (HoldsInPhase n c p parts) is (h.works p lp) in
    let u : (c.held_at_start p j ≤ x) × IsKnownCode c x = given w.1 in
    let seen : c.held_at_start p j ≤ x = u.0 in
    invariant_after n V p c c (IsReading o j g) (WillRead o (j + 1) (max g x)) f parts parts lp is h
    (moves_in_place n V p c c (IsReading o j g) (WillRead o (j + 1) (max g x)) parts (λ b lb e. e) (λ t. t) (record {
      own = w.0.own;
      witness = w.0.witness;
      at_least = λ a la. elim (cases_eq a j) [
        | inl e ↦ (let s : c.held_at_start p a ≡ c.held_at_start p j = ap (c.held_at_start p) e in omega (arith, s, seen))
        | inr ne ↦ (let s : c.held_at_start p a ≤ g = w.0.at_least a (omega (arith, la, ne)) in omega (arith, s))
      ];
      greatest_known = inr (greatest_so_far_known c g x (elim (w.0.greatest_known) [ inl z ↦ inl z.1 | inr k ↦ inr k ]) u.1);
      free = w.0.free;
    })) (recodes_same n V p c f parts lp h)
  where
    given : ReadsPart n c p j (parts (j * n + p)) → (c.held_at_start p j ≤ x) × IsKnownCode c x
    given l = elim (fresh_or_overlapping (record { reader = 1; value = x; fresh = (parts (j * n + p)).fresh 1; overlaps = (parts (j * n + p)).overlaps 1 }) good) [
      | inl e ↦ (let r : c.held_at_start p j ≤ (parts (j * n + p)).fresh 1 = l.fresh.0 in (omega (arith, e, r), subst (IsKnownCode c) (sym e) l.fresh.1))
      | inr m ↦ l.overlaps x m
    ]

-- what was last written to a part other than j stays the same once part j is written
other_part_last : (h j x b : ℕ) → (b ≡ j → ⊥) → (if nat_lt b j then x else h) ≡ (if nat_lt b (j + 1) then x else h)
other_part_last h j x b ne = go (nat_lt b j) refl (nat_lt b (j + 1)) refl
  where
    go : (u : Bool) → nat_lt b j ≡ u → (v : Bool) → nat_lt b (j + 1) ≡ v → (if u then x else h) ≡ (if v then x else h)
    go true e true i = refl
    go false e false i = refl
    go true e false i = absurd (let p = ltb-true b j e in let q = ltb-false b (j + 1) i in omega (arith, p, q))
    go false e true i = absurd (let p = ltb-false b j e in let q = ltb-true b (j + 1) i in omega (arith, p, q, ne))

-- before part j of a row is written, it is as it was
pub part_itself_unwritten : (h j x : ℕ) → (if nat_lt j j then x else h) ≡ h
part_itself_unwritten h j x = go (nat_lt j j) refl
  where
    go : (u : Bool) → nat_lt j j ≡ u → (if u then x else h) ≡ h
    go true e = absurd (let p = ltb-true j j e in omega (arith, p))
    go false e = refl

-- another row shows the same after part j of p's row changes
other_row_same : (n p j : ℕ) (s : Seen) (parts : ℕ → Seen) → j < n → (a b : ℕ) → a < n → b < n → (a ≡ p → ⊥) → SameWrites (parts (a * n + b)) (put (p * n + j) s parts (a * n + b))
other_row_same n p j s parts lj a b la lb ne = subst (SameWrites (parts (a * n + b))) (sym (put_other (p * n + j) (a * n + b) s parts (part_numbers_apart n a b p j lb lj (λ d e. ne d)))) (same_writes_refl (parts (a * n + b)))

-- process p invokes the write of x to part j of its row
pub row_asked : (n V p : ℕ) (c : Coded) (o : Op) (j x : ℕ) (f : ℕ → Phase) (parts : ℕ → Seen) → p < n → j < n → f p ≡ WillWrite o j x → Invariant n V c f parts
    → Invariant n V c (put p (IsWriting o j x) f) (put (p * n + j) (sees (Some (Invoke 0 (Write x))) (parts (p * n + j))) parts)
row_asked n V p c o j x f parts lp lj is h =
    let k : ℕ = p * n + j in
    let s : Seen = sees (Some (Invoke 0 (Write x))) (parts k) in
    let to : ℕ → Seen = put k s parts in
    let w : WritesRow c p o x = subst (HoldsInPhase n c p parts) is (h.works p lp) in
    invariant_after n V p c c (WillWrite o j x) (IsWriting o j x) f parts to lp is h (record {
      row = λ b lb was. (
        put_all (λ i t. t.last ≡ (parts i).last) k s parts refl (λ i ne. refl) (p * n + b) ∙ was.0,
        elim (cases_eq b j) as (λ _. ((to (p * n + b)).writing ≡ row_writing (IsWriting o j x) b) × (length ((to (p * n + b)).overlaps 0) ≡ row_count (c.rows p) (IsWriting o j x) b)) [
          | inl e ↦ (
            ap (λ i. (to (p * n + i)).writing) e ∙ ap (λ t. t.writing) (put_same k s parts) ∙ sym (ap (λ z. if z then Some x else None) (eq-eqb b j e)),
            ap (λ i. length ((to (p * n + i)).overlaps 0)) e ∙ ap (λ t. length (t.overlaps 0)) (put_same k s parts)
                ∙ ap suc ((h.row p j lp lj).1.1 ∙ ap (λ z. row_count (c.rows p) z j) is ∙ part_itself_unwritten (c.rows p) j (c.rows p + 1))
                ∙ (let q : suc (c.rows p) ≡ c.rows p + 1 = omega arith in q) ∙ sym (ap (λ z. if z then c.rows p + 1 else c.rows p) (lt-ltb b (j + 1) (omega (arith, e)))),
          )
          | inr ne ↦ (let other = put_other k (p * n + b) s parts (part_numbers_apart n p b p j lb lj (λ d e. ne e)) in (
            ap (λ t. t.writing) other ∙ was.1.0 ∙ sym (ap (λ z. if z then Some x else None) (ne_eqb b j ne)),
            ap (λ t. length (t.overlaps 0)) other ∙ was.1.1 ∙ other_part_last (c.rows p) j (c.rows p + 1) b ne,
          ))
        ],
      );
      apart = other_row_same n p j s parts lj;
      taken = λ t. t;
      more = λ q a lq la ne. put_all (λ i t. i ≡ a * n + q → OverlapsGrow c q a (parts i) t) k s parts
          (λ e. over q a lq la e w) (λ i d e. overlaps_same c q a (parts i)) (a * n + q) refl;
      works = w;
    }) (recodes_same n V p c f parts lp h)
  where
    over : (q a : ℕ) → q < n → a < n → p * n + j ≡ a * n + q → WritesRow c p o x → OverlapsGrow c q a (parts (p * n + j)) (sees (Some (Invoke 0 (Write x))) (parts (p * n + j)))
    over q a lq la e w = record { fresh = refl; overlaps = λ y m. by y (x == y) refl m }
      where
        by : (y : ℕ) (b : Bool) → (x == y) ≡ b → IsTrue (b || among y ((parts (p * n + j)).overlaps 1)) → IsTrue (among y ((parts (p * n + j)).overlaps 1)) ⊎ ((c.held_at_start q a ≤ y) × IsKnownCode c y)
        by y false i m = inl m
        by y true i m =
            let same : x ≡ y = eqb-true x y i in
            let row : a ≡ p = elim (cases_eq a p) [ inl r ↦ r | inr r ↦ absurd (part_numbers_apart n a q p j lq lj (λ u v. r u) (sym e)) ] in
            let low : c.held_at_start q a ≤ c.held a = h.below q a la in
            let u : c.held p ≤ x = w.held in
            let v : c.held a ≡ c.held p = ap c.held row in
            inr (omega (arith, low, u, v, same), subst (IsKnownCode c) same w.known)

-- process p's write of x to part j of its row returns
pub row_given : (n V p : ℕ) (c : Coded) (o : Op) (j x : ℕ) (f : ℕ → Phase) (parts : ℕ → Seen) → p < n → j < n → f p ≡ IsWriting o j x → Invariant n V c f parts
    → Invariant n V c (put p (WillWrite o (j + 1) x) f) (put (p * n + j) (sees (Some (Wrote 0)) (parts (p * n + j))) parts)
row_given n V p c o j x f parts lp lj is h =
    let k : ℕ = p * n + j in
    let s : Seen = sees (Some (Wrote 0)) (parts k) in
    let to : ℕ → Seen = put k s parts in
    let w : WritesRow c p o x = subst (HoldsInPhase n c p parts) is (h.works p lp) in
    let now : (parts k).writing ≡ Some x = (h.row p j lp lj).1.0 ∙ ap (λ z. row_writing z j) is ∙ ap (λ z. if z then Some x else None) (eq-eqb j j refl) in
    let counted : (b : ℕ) → length ((to (p * n + b)).overlaps 0) ≡ length ((parts (p * n + b)).overlaps 0) = λ b. put_all (λ i t. length (t.overlaps 0) ≡ length ((parts i).overlaps 0)) k s parts refl (λ i ne. refl) (p * n + b) in
    invariant_after n V p c c (IsWriting o j x) (WillWrite o (j + 1) x) f parts to lp is h (record {
      row = λ b lb was. elim (cases_eq b j) as (λ _. PartShows (c.held p) (c.rows p) (WillWrite o (j + 1) x) b (to (p * n + b))) [
        | inl e ↦ (
          ap (λ i. (to (p * n + i)).last) e ∙ ap (λ t. t.last) (put_same k s parts) ∙ ap (λ z. now_last z (parts k).last) now
              ∙ sym (ap (λ z. if z then x else c.held p) (lt-ltb b (j + 1) (omega (arith, e)))),
          (ap (λ i. (to (p * n + i)).writing) e ∙ ap (λ t. t.writing) (put_same k s parts), counted b ∙ was.1.1),
        )
        | inr ne ↦ (let other = put_other k (p * n + b) s parts (part_numbers_apart n p b p j lb lj (λ d e. ne e)) in (
          ap (λ t. t.last) other ∙ was.0 ∙ other_part_last (c.held p) j x b ne,
          (ap (λ t. t.writing) other ∙ was.1.0 ∙ ap (λ z. if z then Some x else None) (ne_eqb b j ne), counted b ∙ was.1.1),
        ))
      ];
      apart = other_row_same n p j s parts lj;
      taken = λ t. t;
      more = λ q a lq la ne. put_all (λ i t. OverlapsGrow c q a (parts i) t) k s parts (record { fresh = refl; overlaps = λ y m. inl m }) (λ i d. overlaps_same c q a (parts i)) (a * n + q);
      works = w;
    }) (recodes_same n V p c f parts lp h)
