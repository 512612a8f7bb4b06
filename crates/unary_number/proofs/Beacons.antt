-- The beacon of a read that has reached some bit: a lit bit, at or above that bit, whose index the
-- read may give; and that each read keeps one, as bits are set, cleared and read.
use Rattle.std.proofs.Common.{eq-eqb, ◌+◌, ◌≡◌, ℕ, suc, Bool, true, false, Option, Some, None, ◌<◌, ◌≤◌, ◌==◌, IsTrue, refl, sym, ap, ◌∙◌, subst, arith, List, ◌∷◌, inl, inr}
use Rattle.std.specs.Prelude.{◌⊎◌, ◌||◌}
use Rattle.std.proofs.lemmas.Bool.{eqb-true, cases_lt, cases_eq}
use Rattle.frames.specs.declared.types.Op.TheVariants.{Read, Write}
use Rattle.frames.specs.declared.types.Event.TheVariants.{Invoke, Wrote}
use Rattle.frames.specs.correctness.Regularity.{in_progress}
use Rattle.frames.proofs.Seen.{Seen, Returned, among, sees, now_last, IsNotStray, among_more, among_here}
use Rattle.frames.proofs.VerdictFacts.{fresh_or_overlapping}
use Rattle.frames.proofs.Pointwise.{put, put_same, put_other, put_all}

-- the bit is 1, and no write of 0 to it is in progress
pub record IsLit (s : Seen) : Type 0 where
  pub last : s.last ≡ 1
  pub writing : (s.writing ≡ None) ⊎ (s.writing ≡ Some 1)

-- a read of the bit may give 1
abbrev pub MayGiveOne : Seen → Type 0
MayGiveOne s = (s.last ≡ 1) ⊎ (s.writing ≡ Some 1)

-- Bit k is at or above bit p and at or below `top`, it is lit, and its index is allowed. The index
-- of each bit from p up to k of which a read may give 1 is allowed too.
pub record Beacon (top p k : ℕ) (A : ℕ → Type 0) (parts : ℕ → Seen) : Type 0 where
  pub low : p ≤ k
  pub high : k ≤ top
  pub allowed : A k
  pub lit : IsLit (parts k)
  pub below : (i : ℕ) → p ≤ i → i < k → MayGiveOne (parts i) → A i

-- what a bit shows after a write of 1 to it has begun
abbrev pub being_set : Seen → Seen
being_set s = sees (Some (Invoke 0 (Write 1))) s

-- what a bit shows after a write of 0 to it has begun
abbrev pub being_cleared : Seen → Seen
being_cleared s = sees (Some (Invoke 0 (Write 0))) s

-- what a bit shows after the write to it has returned
abbrev pub written : Seen → Seen
written s = sees (Some (Wrote 0)) s

-- bit k stays the beacon when a write of 1 begins to a bit whose index is allowed
pub beacon_after_set_begins : (top p k x : ℕ) (A : ℕ → Type 0) (parts : ℕ → Seen) → Beacon top p k A parts → A x → Beacon top p k A (put x (being_set (parts x)) parts)
beacon_after_set_begins top p k x A parts b ax = record {
  low = b.low;
  high = b.high;
  allowed = b.allowed;
  lit = put_all (λ i s. i ≡ k → IsLit s) x (being_set (parts x)) parts
      (λ e. record { last = subst (λ i. (parts i).last ≡ 1) (sym e) b.lit.last; writing = inr refl })
      (λ i ne e. subst (λ y. IsLit (parts y)) (sym e) b.lit) k refl;
  below = put_all (λ i s. p ≤ i → i < k → MayGiveOne s → A i) x (being_set (parts x)) parts (λ l h m. ax) (λ i ne. b.below i);
}

-- bit k stays the beacon when a write of 1 ends to a bit whose index is allowed
pub beacon_after_set_ends : (top p k x : ℕ) (A : ℕ → Type 0) (parts : ℕ → Seen) → Beacon top p k A parts → (parts x).writing ≡ Some 1 → A x → Beacon top p k A (put x (written (parts x)) parts)
beacon_after_set_ends top p k x A parts b w ax = record {
  low = b.low;
  high = b.high;
  allowed = b.allowed;
  lit = put_all (λ i s. i ≡ k → IsLit s) x (written (parts x)) parts
      (λ e. record { last = ap (λ o. now_last o (parts x).last) w; writing = inl refl })
      (λ i ne e. subst (λ y. IsLit (parts y)) (sym e) b.lit) k refl;
  below = put_all (λ i s. p ≤ i → i < k → MayGiveOne s → A i) x (written (parts x)) parts (λ l h m. ax) (λ i ne. b.below i);
}

-- anything follows if `Some 0` is `Some 1`
pub zero_is_not_one : (A : Type 0) → (let z : Option ℕ = Some 0 in z) ≡ Some 1 → A
zero_is_not_one A e = let n : ⊥ = cc in absurd n

-- if a read may give 1 of a bit that is being cleared, it could before the clearing began
may_give_one_before : (s : Seen) → MayGiveOne (being_cleared s) → MayGiveOne s
may_give_one_before s m = elim m [ inl e ↦ inl e | inr e ↦ zero_is_not_one (MayGiveOne s) e ]

-- bit k stays the beacon when a write of 0 to another bit begins
pub beacon_after_clear_begins : (top p k i : ℕ) (A : ℕ → Type 0) (parts : ℕ → Seen) → Beacon top p k A parts → (k ≡ i → ⊥) → Beacon top p k A (put i (being_cleared (parts i)) parts)
beacon_after_clear_begins top p k i A parts b ne = record {
  low = b.low;
  high = b.high;
  allowed = b.allowed;
  lit = put_all (λ y s. y ≡ k → IsLit s) i (being_cleared (parts i)) parts
      (λ e. absurd (ne (sym e)))
      (λ y n e. subst (λ y. IsLit (parts y)) (sym e) b.lit) k refl;
  below = put_all (λ y s. p ≤ y → y < k → MayGiveOne s → A y) i (being_cleared (parts i)) parts (λ l h m. b.below i l h (may_give_one_before (parts i) m)) (λ y n. b.below y);
}

-- A write of 0 to the beacon, bit i, begins: the beacon moves up to bit x, which is lit, and no
-- read gives 1 of a bit between them.
pub beacon_moves_up : (top p i x : ℕ) (A : ℕ → Type 0) (parts : ℕ → Seen) → Beacon top p i A parts → i < x → x ≤ top → A x → (parts x).last ≡ 1 → (parts x).writing ≡ None
    → ((y : ℕ) → i < y → y < x → MayGiveOne (parts y) → ⊥) → Beacon top p x A (put i (being_cleared (parts i)) parts)
beacon_moves_up top p i x A parts b l high ax one quiet none = record {
  low = let q : p ≤ i = b.low in omega (arith, l, q);
  high = high;
  allowed = ax;
  lit = put_all (λ y s. y ≡ x → IsLit s) i (being_cleared (parts i)) parts
      (λ e. let n : ⊥ = omega (arith, e, l) in absurd n)
      (λ y n e. subst (λ y. IsLit (parts y)) (sym e) (record { last = one; writing = inl quiet })) x refl;
  below = put_all (λ y s. p ≤ y → y < x → MayGiveOne s → A y) i (being_cleared (parts i)) parts
      (λ lo hi m. b.allowed)
      (λ y n lo hi m. between y n lo hi m);
}
  where
    between : (y : ℕ) → (y ≡ i → ⊥) → p ≤ y → y < x → MayGiveOne (parts y) → A y
    between y n lo hi m =
        elim (cases_lt y i) [
          | inl lt ↦ b.below y lo lt m
          | inr ge ↦ (let gt : i < y = omega (arith, ge, n) in absurd (none y gt hi m))
        ]

-- a number isn't both 0 and 1
pub not_zero_and_one : (n : ℕ) → n ≡ 0 → n ≡ 1 → ⊥
not_zero_and_one n e f = omega (arith, e, f)

-- bit k stays the beacon when a write of 0 ends, which is to another bit, since bit k is lit
pub beacon_after_clear_ends : (top p k i : ℕ) (A : ℕ → Type 0) (parts : ℕ → Seen) → Beacon top p k A parts → (parts i).writing ≡ Some 0 → Beacon top p k A (put i (written (parts i)) parts)
beacon_after_clear_ends top p k i A parts b w = record {
  low = b.low;
  high = b.high;
  allowed = b.allowed;
  lit = put_all (λ y s. y ≡ k → IsLit s) i (written (parts i)) parts
      (λ e. elim b.lit.writing [
        | inl n ↦ (let q : (parts i).writing ≡ None = subst (λ y. (parts y).writing ≡ None) (sym e) n in let z : ⊥ = cc in absurd z)
        | inr n ↦ (let q : (parts i).writing ≡ Some 1 = subst (λ y. (parts y).writing ≡ Some 1) (sym e) n in zero_is_not_one (IsLit (written (parts i))) (sym w ∙ q))
      ])
      (λ y n e. subst (λ y. IsLit (parts y)) (sym e) b.lit) k refl;
  below = put_all (λ y s. p ≤ y → y < k → MayGiveOne s → A y) i (written (parts i)) parts
      (λ lo hi m. elim m [
        | inl e ↦ (let z : ⊥ = not_zero_and_one _ (ap (λ o. now_last o (parts i).last) w) e in absurd z)
        | inr e ↦ (let z : ⊥ = cc in absurd z)
      ])
      (λ y n. b.below y);
}

-- bit k stays the beacon if more indices are allowed
pub beacon_allows_more : (top p k : ℕ) (A B : ℕ → Type 0) (parts : ℕ → Seen) → ((i : ℕ) → A i → B i) → Beacon top p k A parts → Beacon top p k B parts
beacon_allows_more top p k A B parts f b = record { low = b.low; high = b.high; allowed = f k b.allowed; lit = b.lit; below = λ i l h m. f i (b.below i l h m) }

-- bit k stays the beacon when a read of a bit begins
pub beacon_after_read_begins : (top p k i q : ℕ) (A : ℕ → Type 0) (parts : ℕ → Seen) → Beacon top p k A parts → Beacon top p k A (put i (sees (Some (Invoke q Read)) (parts i)) parts)
beacon_after_read_begins top p k i q A parts b = record {
  low = b.low;
  high = b.high;
  allowed = b.allowed;
  lit = put_all (λ y s. y ≡ k → IsLit s) i (sees (Some (Invoke q Read)) (parts i)) parts
      (λ e. let h : IsLit (parts i) = subst (λ y. IsLit (parts y)) (sym e) b.lit in record { last = h.last; writing = h.writing })
      (λ y n e. subst (λ y. IsLit (parts y)) (sym e) b.lit) k refl;
  below = put_all (λ y s. p ≤ y → y < k → MayGiveOne s → A y) i (sees (Some (Invoke q Read)) (parts i)) parts (b.below i) (λ y n. b.below y);
}

-- y is a value that process r's last read of the number may give: its fresh value, or the value of
-- a write that overlaps it
abbrev pub MayGive : ℕ → Seen → ℕ → Type 0
MayGive r u y = (y ≡ u.fresh r) ⊎ IsTrue (among y (u.overlaps r))

-- y is a value that a read of the number may give if it is invoked now
abbrev pub MayGiveNow : Seen → ℕ → Type 0
MayGiveNow u y = (y ≡ u.last) ⊎ (u.writing ≡ Some y)

-- a property of bit i stays the same if bit d changes but keeps this property
same_property : {X : Type 0} (of : Seen → X) (i d : ℕ) (s : Seen) (parts : ℕ → Seen) → of s ≡ of (parts d) → of (put d s parts i) ≡ of (parts i)
same_property of i d s parts same = put_all (λ y z. of z ≡ of (parts y)) d s parts same (λ y ne. refl) i

-- Process r reads bit i, with `left` bits above it, and bit k is its beacon. If bit i is the
-- beacon, the read of it gives 1; and if it may give 1, the read of the number may give i.
pub record ReadHasBeacon (top r i left k : ℕ) (u : Seen) (parts : ℕ → Seen) : Type 0 where
  pub room : i + left ≡ top
  pub beacon : Beacon top i k (MayGive r u) parts
  pub here : k ≡ i → ((parts i).fresh r ≡ 1) × (IsTrue (among 0 ((parts i).overlaps r)) → ⊥)
  pub fresh_one : (parts i).fresh r ≡ 1 → MayGive r u i
  pub over_one : IsTrue (among 1 ((parts i).overlaps r)) → MayGive r u i

-- process r's read of bit i keeps its beacon when a write of x begins, and with it the write of 1
-- to bit x
pub read_has_beacon_after_set_begins : (top r i left k p x : ℕ) (u : Seen) (parts : ℕ → Seen) → ReadHasBeacon top r i left k u parts
    → ReadHasBeacon top r i left k (sees (Some (Invoke p (Write x))) u) (put x (being_set (parts x)) parts)
read_has_beacon_after_set_begins top r i left k p x u parts l =
    let more : (y : ℕ) → MayGive r u y → MayGive r (sees (Some (Invoke p (Write x))) u) y = λ y m. elim m [ inl e ↦ inl e | inr e ↦ inr (among_more y x (u.overlaps r) e) ] in
    let ax : MayGive r (sees (Some (Invoke p (Write x))) u) x = inr (among_here x (u.overlaps r)) in
    record {
      room = l.room;
      beacon = beacon_after_set_begins top i k x (MayGive r (sees (Some (Invoke p (Write x))) u)) parts (beacon_allows_more top i k (MayGive r u) (MayGive r (sees (Some (Invoke p (Write x))) u)) parts more l.beacon) ax;
      here = λ ke. let h = l.here ke in
          (same_property (λ z. z.fresh r) i x (being_set (parts x)) parts refl ∙ h.0, λ m. h.1 (subst IsTrue (same_property (λ z. among 0 (z.overlaps r)) i x (being_set (parts x)) parts refl) m));
      fresh_one = λ f. more i (l.fresh_one (sym (same_property (λ z. z.fresh r) i x (being_set (parts x)) parts refl) ∙ f));
      over_one = put_all (λ y s. y ≡ i → IsTrue (among 1 (s.overlaps r)) → MayGive r (sees (Some (Invoke p (Write x))) u) i) x (being_set (parts x)) parts
          (λ e f. subst (MayGive r (sees (Some (Invoke p (Write x))) u)) e ax)
          (λ y ne e f. more i (l.over_one (subst (λ y. IsTrue (among 1 ((parts y).overlaps r))) e f))) i refl;
    }

-- process r's read of bit i keeps its beacon when a write of bit d ends, if bit k stays a beacon
pub read_has_beacon_after_write_ends : (top r i left k d : ℕ) (u : Seen) (parts : ℕ → Seen) → ReadHasBeacon top r i left k u parts → Beacon top i k (MayGive r u) (put d (written (parts d)) parts)
    → ReadHasBeacon top r i left k u (put d (written (parts d)) parts)
read_has_beacon_after_write_ends top r i left k d u parts l b = record {
  room = l.room;
  beacon = b;
  here = λ ke. let h = l.here ke in
      (same_property (λ z. z.fresh r) i d (written (parts d)) parts refl ∙ h.0, λ m. h.1 (subst IsTrue (same_property (λ z. among 0 (z.overlaps r)) i d (written (parts d)) parts refl) m));
  fresh_one = λ f. l.fresh_one (sym (same_property (λ z. z.fresh r) i d (written (parts d)) parts refl) ∙ f);
  over_one = λ m. l.over_one (subst IsTrue (same_property (λ z. among 1 (z.overlaps r)) i d (written (parts d)) parts refl) m);
}

-- process r's read of bit i has the beacon z after a write of 0 to bit d begins, if z is then a
-- beacon, and is i only if i was the beacon before
pub read_has_beacon_after_clear_begins : (top r i left k z d : ℕ) (u : Seen) (parts : ℕ → Seen) → ReadHasBeacon top r i left k u parts → Beacon top i z (MayGive r u) (put d (being_cleared (parts d)) parts)
    → (z ≡ i → (k ≡ i) × (i ≡ d → ⊥)) → ReadHasBeacon top r i left z u (put d (being_cleared (parts d)) parts)
read_has_beacon_after_clear_begins top r i left k z d u parts l b which = record {
  room = l.room;
  beacon = b;
  here = put_all (λ y s. y ≡ i → z ≡ i → (s.fresh r ≡ 1) × (IsTrue (among 0 (s.overlaps r)) → ⊥)) d (being_cleared (parts d)) parts
      (λ e ze. absurd ((which ze).1 (sym e)))
      (λ y ne e ze. subst (λ y. ((parts y).fresh r ≡ 1) × (IsTrue (among 0 ((parts y).overlaps r)) → ⊥)) (sym e) (l.here (which ze).0)) i refl;
  fresh_one = λ f. l.fresh_one (sym (same_property (λ z. z.fresh r) i d (being_cleared (parts d)) parts refl) ∙ f);
  over_one = λ m. l.over_one (subst IsTrue (same_property (λ z. among 1 (z.overlaps r)) i d (being_cleared (parts d)) parts refl) m);
}

-- process r's read of bit i keeps its beacon when another process begins to read bit d
pub read_has_beacon_after_other_read : (top r i left k d q : ℕ) (u v : Seen) (parts : ℕ → Seen) → (r ≡ q → ⊥) → u.fresh r ≡ v.fresh r → u.overlaps r ≡ v.overlaps r → ReadHasBeacon top r i left k u parts
    → ReadHasBeacon top r i left k v (put d (sees (Some (Invoke q Read)) (parts d)) parts)
read_has_beacon_after_other_read top r i left k d q u v parts ne ef eo l =
    let give : (y : ℕ) → MayGive r u y → MayGive r v y = λ y m. elim m [ inl e ↦ inl (e ∙ ef) | inr e ↦ inr (subst (λ o. IsTrue (among y o)) eo e) ] in
    let s : Seen = sees (Some (Invoke q Read)) (parts d) in
    let sf : s.fresh r ≡ (parts d).fresh r = put_other q r (parts d).last (parts d).fresh ne in
    let so : s.overlaps r ≡ (parts d).overlaps r = put_other q r (in_progress (parts d).writing) (parts d).overlaps ne in
    let fresh_at = same_property (λ z. z.fresh r) i d s parts sf in
    let over_at = same_property (λ z. z.overlaps r) i d s parts so in
    record {
      room = l.room;
      beacon = beacon_after_read_begins top i k d q (MayGive r v) parts (beacon_allows_more top i k (MayGive r u) (MayGive r v) parts give l.beacon);
      here = λ ke. let h = l.here ke in (fresh_at ∙ h.0, λ m. h.1 (subst (λ o. IsTrue (among 0 o)) over_at m));
      fresh_one = λ f. give i (l.fresh_one (sym fresh_at ∙ f));
      over_one = λ m. give i (l.over_one (subst (λ o. IsTrue (among 1 o)) over_at m));
    }

-- if 1 is the value of a write in progress, the write in progress is of 1
writing_one : (w : Option ℕ) → IsTrue (among 1 (in_progress w)) → w ≡ Some 1
writing_one None h = let n : ⊥ = cc in absurd n
writing_one (Some v) h = go (v == 1) refl h
  where
    go : (c : Bool) → (v == 1) ≡ c → IsTrue (c || false) → (let s : Option ℕ = Some v in s) ≡ Some 1
    go true e k = ap (λ x. let s : Option ℕ = Some x in s) (eqb-true v 1 e)
    go false e k = let n : ⊥ = cc in absurd n

-- if no write is in progress, or one of 1, then 0 isn't the value of a write in progress
not_writing_zero : (w : Option ℕ) → (w ≡ None) ⊎ (w ≡ Some 1) → IsTrue (among 0 (in_progress w)) → ⊥
not_writing_zero w (inl e) h = let k = subst (λ w. IsTrue (among 0 (in_progress w))) e h in cc
not_writing_zero w (inr e) h = let k = subst (λ w. IsTrue (among 0 (in_progress w))) e h in cc

-- process r's read of bit i has beacon k when it begins, if k is the beacon of the scan from bit i
-- on
pub read_has_beacon_at_start : (top r i left k : ℕ) (u : Seen) (parts : ℕ → Seen) → i + left ≡ top → Beacon top i k (MayGive r u) parts
    → ReadHasBeacon top r i left k u (put i (sees (Some (Invoke r Read)) (parts i)) parts)
read_has_beacon_at_start top r i left k u parts room b =
    let s : Seen = sees (Some (Invoke r Read)) (parts i) in
    let sf : s.fresh r ≡ (parts i).last = put_same r (parts i).last (parts i).fresh in
    let so : s.overlaps r ≡ in_progress (parts i).writing = put_same r (in_progress (parts i).writing) (parts i).overlaps in
    let shows : MayGiveOne (parts i) → MayGive r u i = λ m. elim (cases_eq k i) [
      | inl e ↦ subst (MayGive r u) e b.allowed
      | inr ne ↦ (let low : i ≤ k = b.low in let lt : i < k = omega (arith, low, ne) in b.below i (omega arith) lt m)
    ] in
    let me : put i s parts i ≡ s = put_same i s parts in
    record {
      room = room;
      beacon = beacon_after_read_begins top i k i r (MayGive r u) parts b;
      here = λ ke. subst (λ z. (z.fresh r ≡ 1) × (IsTrue (among 0 (z.overlaps r)) → ⊥)) (sym me)
          (let lit : IsLit (parts i) = subst (λ y. IsLit (parts y)) ke b.lit in
          (sf ∙ lit.last, λ m. not_writing_zero (parts i).writing lit.writing (subst (λ o. IsTrue (among 0 o)) so m)));
      fresh_one = λ f. shows (inl (sym sf ∙ subst (λ z. z.fresh r ≡ 1) me f));
      over_one = λ f. shows (inr (writing_one (parts i).writing (subst (λ o. IsTrue (among 1 o)) so (subst (λ z. IsTrue (among 1 (z.overlaps r))) me f))));
    }

-- if the read of bit i gives 1 and isn't stray, i is a value that the read of the number may give
pub may_give_after_one : (top r i left k : ℕ) (u : Seen) (parts : ℕ → Seen) → ReadHasBeacon top r i left k u parts
    → IsNotStray (record { reader = r; value = 1; fresh = (parts i).fresh r; overlaps = (parts i).overlaps r }) → MayGive r u i
may_give_after_one top r i left k u parts l g =
    let x : Returned = record { reader = r; value = 1; fresh = (parts i).fresh r; overlaps = (parts i).overlaps r } in
    elim (fresh_or_overlapping x g) [ inl e ↦ l.fresh_one (sym e) | inr m ↦ l.over_one m ]

-- if the read of bit i gives 0 and isn't stray, bit k is the beacon of the scan from the next bit
-- on
pub beacon_after_zero : (top r i left k : ℕ) (u : Seen) (parts : ℕ → Seen) → ReadHasBeacon top r i left k u parts
    → IsNotStray (record { reader = r; value = 0; fresh = (parts i).fresh r; overlaps = (parts i).overlaps r }) → Beacon top (suc i) k (MayGive r u) parts
beacon_after_zero top r i left k u parts l g =
    let x : Returned = record { reader = r; value = 0; fresh = (parts i).fresh r; overlaps = (parts i).overlaps r } in
    let ne : k ≡ i → ⊥ = λ e. let h = l.here e in elim (fresh_or_overlapping x g) [ inl z ↦ (let f : (parts i).fresh r ≡ 1 = h.0 in omega (arith, z, f)) | inr m ↦ h.1 m ] in
    let low : i ≤ k = l.beacon.low in
    record {
      low = omega (arith, low, ne);
      high = l.beacon.high;
      allowed = l.beacon.allowed;
      lit = l.beacon.lit;
      below = λ y lo hi m. l.beacon.below y (omega (arith, lo)) hi m;
    }
