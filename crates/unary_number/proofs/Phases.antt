-- The phases of a write, the bits in each phase, and the beacon of each read in progress.
use Rattle.std.proofs.Common.{◌≡◌, ℕ, suc, Option, Some, None, ◌<◌, ◌≤◌, IsTrue, refl, sym, ap, ◌∙◌, subst, arith, ◌∷◌, inl, inr}
use Rattle.std.specs.Prelude.{◌⊎◌}
use Rattle.std.proofs.lemmas.Bool.{cases_eq}
use Rattle.frames.specs.declared.types.Op.TheVariants.{Write}
use Rattle.frames.specs.declared.types.Event.TheVariants.{Invoke, Wrote}
use Rattle.frames.proofs.Seen.{Seen, among, sees, now_last, among_here}
use Rattle.frames.proofs.Pointwise.{put, put_same, put_other, put_all}
use Rattle.layers.proofs.Law.{TaskInProgress}
use Rattle.unary_number.specs.declared.task.UnaryTask.{UnaryTask}
use Rattle.unary_number.specs.declared.task.UnaryTask.TheVariants.{Setting, Clearing, Looking}
use Rattle.unary_number.proofs.Beacons.{MayGiveOne, Beacon, being_set, being_cleared, written, MayGive, MayGiveNow, ReadHasBeacon, not_zero_and_one, beacon_after_set_begins, beacon_after_set_ends, beacon_after_clear_begins, beacon_moves_up, beacon_after_clear_ends, beacon_allows_more, read_has_beacon_after_set_begins, read_has_beacon_after_write_ends, read_has_beacon_after_clear_begins}

-- no write is in progress, and the bits are as the last write left them
pub record Idle (top : ℕ) (u : Seen) (parts : ℕ → Seen) : Type 0 where
  pub writing : u.writing ≡ None
  pub small : u.last ≤ top
  pub one : (parts u.last).last ≡ 1
  pub zeros : (i : ℕ) → i < u.last → (parts i).last ≡ 1 → ⊥
  pub quiet : (i : ℕ) → i ≤ top → (parts i).writing ≡ None

-- a write of x is in progress, and is setting bit x to 1
pub record SetsBit (top x : ℕ) (u : Seen) (parts : ℕ → Seen) : Type 0 where
  pub writing : u.writing ≡ Some x
  pub small : x ≤ top
  pub here : (parts x).writing ≡ Some 1
  pub quiet : (i : ℕ) → i ≤ top → (i ≡ x → ⊥) → (parts i).writing ≡ None

-- a write of x is in progress, between two bits: bit x is 1, and the bits from i to x - 1 are 0
pub record ClearedFrom (top i x : ℕ) (u : Seen) (parts : ℕ → Seen) : Type 0 where
  pub writing : u.writing ≡ Some x
  pub small : x ≤ top
  pub low : i ≤ x
  pub one : (parts x).last ≡ 1
  pub zeros : (k : ℕ) → i ≤ k → k < x → (parts k).last ≡ 1 → ⊥
  pub quiet : (k : ℕ) → k ≤ top → (parts k).writing ≡ None

-- a write of x is in progress, and is clearing bit i: bit x is 1, and the bits from i + 1 to x - 1
-- are 0
pub record ClearsBit (top i x : ℕ) (u : Seen) (parts : ℕ → Seen) : Type 0 where
  pub writing : u.writing ≡ Some x
  pub small : x ≤ top
  pub low : i < x
  pub one : (parts x).last ≡ 1
  pub zeros : (k : ℕ) → i < k → k < x → (parts k).last ≡ 1 → ⊥
  pub here : (parts i).writing ≡ Some 0
  pub quiet : (k : ℕ) → k ≤ top → (k ≡ i → ⊥) → (parts k).writing ≡ None

-- what each task of the writer says of the number and of the bits
abbrev pub WriterIn : ℕ → UnaryTask → Seen → (ℕ → Seen) → Type 0
WriterIn top (Setting x) u parts = SetsBit top x u parts
WriterIn top (Clearing x i) u parts = ClearsBit top i x u parts
WriterIn top (Looking q i left) u parts = ⊥

-- what the writer's task says; if it has none, that no write is in progress
abbrev pub WriterSays : ℕ → Option (TaskInProgress UnaryTask) → Seen → (ℕ → Seen) → Type 0
WriterSays top None u parts = Idle top u parts
WriterSays top (Some n) u parts = WriterIn top n.task u parts

-- what each task of reader r says: the scan's read of a bit has a beacon
abbrev pub ReaderIn : ℕ → ℕ → UnaryTask → Seen → (ℕ → Seen) → Type 0
ReaderIn top r (Setting x) u parts = ⊥
ReaderIn top r (Clearing x i) u parts = ⊥
ReaderIn top r (Looking q i left) u parts = (q ≡ r) × ((k : ℕ) × ReadHasBeacon top r i left k u parts)

-- what reader r's task says, if it has one
abbrev pub ReaderSays : ℕ → ℕ → Option (TaskInProgress UnaryTask) → Seen → (ℕ → Seen) → Type 0
ReaderSays top r None u parts = Unit {0}
ReaderSays top r (Some n) u parts = ReaderIn top r n.task u parts

-- In a step of process p, every read overlaps the write in progress, if there is one. A read that
-- is invoked now has a beacon, and so does each read in progress except that of p.
pub record HasBeacons (top p : ℕ) (u : Seen) (tasks : ℕ → Option (TaskInProgress UnaryTask)) (parts : ℕ → Seen) : Type 0 where
  pub overlap : (r x : ℕ) → u.writing ≡ Some x → IsTrue (among x (u.overlaps r))
  pub ready : (k : ℕ) × Beacon top 0 k (MayGiveNow u) parts
  pub readers : (r : ℕ) → (r ≡ 0 → ⊥) → (r ≡ p → ⊥) → ReaderSays top r (tasks r) u parts

-- what a reader's task says still holds, if its read of a bit still has a beacon, the same or
-- another
pub reader_says_still : (top r : ℕ) (u v : Seen) (parts to : ℕ → Seen) → ((i left k : ℕ) → ReadHasBeacon top r i left k u parts → (z : ℕ) × ReadHasBeacon top r i left z v to)
    → (task : Option (TaskInProgress UnaryTask)) → ReaderSays top r task u parts → ReaderSays top r task v to
reader_says_still top r u v parts to f None h = tt
reader_says_still top r u v parts to f (Some n) h = at n.task h
  where
    at : (task : UnaryTask) → ReaderIn top r task u parts → ReaderIn top r task v to
    at (Setting x) h = h
    at (Clearing x i) h = h
    at (Looking q i left) h = (h.0, f i left h.1.0 h.1.1)

-- `Some` is injective
some_same : (x y : ℕ) → (let s : Option ℕ = Some x in s) ≡ Some y → x ≡ y
some_same x y e = cc

-- `HasBeacons` holds after a write of x begins, and with it the write of 1 to bit x
pub has_beacons_after_write_begins : (top p x : ℕ) (u : Seen) (tasks : ℕ → Option (TaskInProgress UnaryTask)) (parts : ℕ → Seen) → HasBeacons top p u tasks parts → u.writing ≡ None
    → HasBeacons top p (sees (Some (Invoke p (Write x))) u) tasks (put x (being_set (parts x)) parts)
has_beacons_after_write_begins top p x u tasks parts l idle =
    let v : Seen = sees (Some (Invoke p (Write x))) u in
    record {
      overlap = λ r y e. subst (λ z. IsTrue (among z (x ∷ u.overlaps r))) (some_same x y e) (among_here x (u.overlaps r));
      ready = (
        l.ready.0,
        beacon_after_set_begins top 0 l.ready.0 x (MayGiveNow v) parts
            (beacon_allows_more top 0 l.ready.0 (MayGiveNow u) (MayGiveNow v) parts (λ y m. elim m [ inl e ↦ inl e | inr e ↦ (let n : ⊥ = cc in absurd n) ]) l.ready.1) (inr refl),
      );
      readers = λ r z ne. reader_says_still top r u v parts (put x (being_set (parts x)) parts) (λ i left k h. (k, read_has_beacon_after_set_begins top r i left k p x u parts h)) (tasks r) (l.readers r z ne);
    }

-- `HasBeacons` holds after the write of 1 to bit x ends
pub has_beacons_after_set_ends : (top p x : ℕ) (u : Seen) (tasks : ℕ → Option (TaskInProgress UnaryTask)) (parts : ℕ → Seen) → HasBeacons top p u tasks parts → u.writing ≡ Some x → (parts x).writing ≡ Some 1
    → HasBeacons top p u tasks (put x (written (parts x)) parts)
has_beacons_after_set_ends top p x u tasks parts l e w = record {
  overlap = l.overlap;
  ready = (l.ready.0, beacon_after_set_ends top 0 l.ready.0 x (MayGiveNow u) parts l.ready.1 w (inr e));
  readers = λ r z ne. reader_says_still top r u u parts (put x (written (parts x)) parts)
      (λ i left k h. (k, read_has_beacon_after_write_ends top r i left k x u parts h (beacon_after_set_ends top i k x (MayGive r u) parts h.beacon w (inr (l.overlap r x e))))) (tasks r) (l.readers r z ne);
}

-- a read doesn't give 1 of a bit that is 0 and isn't being written
never_gives_one : (s : Seen) → s.writing ≡ None → (s.last ≡ 1 → ⊥) → MayGiveOne s → ⊥
never_gives_one s q d m = elim m [ inl e ↦ d e | inr e ↦ (let n : ⊥ = cc in n) ]

-- after a write of 0 to bit i begins there is a beacon: bit k as before, or bit x if k was i
next_beacon : (top p k i x : ℕ) (A : ℕ → Type 0) (u : Seen) (parts : ℕ → Seen) → ClearedFrom top (suc i) x u parts → A x → Beacon top p k A parts
    → (z : ℕ) × (Beacon top p z A (put i (being_cleared (parts i)) parts) × (((k ≡ i → ⊥) × (z ≡ k)) ⊎ ((k ≡ i) × (z ≡ x))))
next_beacon top p k i x A u parts c ax b =
    let low : suc i ≤ x = c.low in
    let small : x ≤ top = c.small in
    elim (cases_eq k i) [
      | inr ne ↦ (k, (beacon_after_clear_begins top p k i A parts b ne, inl (ne, refl)))
      | inl e ↦ (
        x,
        (
          beacon_moves_up top p i x A parts (subst (λ y. Beacon top p y A parts) e b) (omega (arith, low)) small ax c.one (c.quiet x small)
              (λ y lo hi m. never_gives_one (parts y) (c.quiet y (omega (arith, hi, small))) (c.zeros y (omega (arith, lo)) hi) m),
          inr (e, refl),
        ),
      )
    ]

-- `HasBeacons` holds after a write of 0 to bit i begins
pub has_beacons_after_clear_begins : (top p i x : ℕ) (u : Seen) (tasks : ℕ → Option (TaskInProgress UnaryTask)) (parts : ℕ → Seen) → HasBeacons top p u tasks parts → ClearedFrom top (suc i) x u parts
    → HasBeacons top p u tasks (put i (being_cleared (parts i)) parts)
has_beacons_after_clear_begins top p i x u tasks parts l c =
    let ready = next_beacon top 0 l.ready.0 i x (MayGiveNow u) u parts c (inr c.writing) l.ready.1 in
    record {
      overlap = l.overlap;
      ready = (ready.0, ready.1.0);
      readers = λ r z ne. reader_says_still top r u u parts (put i (being_cleared (parts i)) parts) (λ y left k h. still_has r y left k h (l.overlap r x c.writing)) (tasks r) (l.readers r z ne);
    }
  where
    still_has : (r y left k : ℕ) → ReadHasBeacon top r y left k u parts → IsTrue (among x (u.overlaps r)) → (z : ℕ) × ReadHasBeacon top r y left z u (put i (being_cleared (parts i)) parts)
    still_has r y left k h o =
        let f = next_beacon top y k i x (MayGive r u) u parts c (inr o) h.beacon in
        let low : suc i ≤ x = c.low in
        let ky : y ≤ k = h.beacon.low in (
          f.0,
          read_has_beacon_after_clear_begins top r y left k f.0 i u parts h f.1.0 (λ e. elim f.1.1 [
            | inl g ↦ (sym g.1 ∙ e, λ a. g.0 (sym g.1 ∙ e ∙ a))
            | inr g ↦ (let g0 : k ≡ i = g.0 in let g1 : f.0 ≡ x = g.1 in let n : ⊥ = omega (arith, e, g0, g1, low, ky) in absurd n)
          ]),
        )

-- `HasBeacons` holds after a write of 0 to bit i ends
pub has_beacons_after_clear_ends : (top p i : ℕ) (u : Seen) (tasks : ℕ → Option (TaskInProgress UnaryTask)) (parts : ℕ → Seen) → HasBeacons top p u tasks parts → (parts i).writing ≡ Some 0
    → HasBeacons top p u tasks (put i (written (parts i)) parts)
has_beacons_after_clear_ends top p i u tasks parts l w = record {
  overlap = l.overlap;
  ready = (l.ready.0, beacon_after_clear_ends top 0 l.ready.0 i (MayGiveNow u) parts l.ready.1 w);
  readers = λ r z ne. reader_says_still top r u u parts (put i (written (parts i)) parts)
      (λ y left k h. (k, read_has_beacon_after_write_ends top r y left k i u parts h (beacon_after_clear_ends top y k i (MayGive r u) parts h.beacon w))) (tasks r) (l.readers r z ne);
}

-- `HasBeacons` holds after the write of x returns
pub has_beacons_after_write_ends : (top p q x : ℕ) (u : Seen) (tasks : ℕ → Option (TaskInProgress UnaryTask)) (parts : ℕ → Seen) → HasBeacons top p u tasks parts → ClearedFrom top 0 x u parts
    → HasBeacons top p (sees (Some (Wrote q)) u) tasks parts
has_beacons_after_write_ends top p q x u tasks parts l c =
    let v : Seen = sees (Some (Wrote q)) u in
    let last : now_last u.writing u.last ≡ x = ap (λ w. now_last w u.last) c.writing in
    record {
      overlap = λ r y e. (let n : ⊥ = cc in absurd n);
      ready = (
        x,
        record {
          low = omega arith;
          high = c.small;
          allowed = inl (sym last);
          lit = record { last = c.one; writing = inl (c.quiet x c.small) };
          below = λ i lo hi m. absurd (let small : x ≤ top = c.small in never_gives_one (parts i) (c.quiet i (omega (arith, hi, small))) (c.zeros i lo hi) m);
        },
      );
      readers = λ r z ne. reader_says_still top r u v parts parts (λ i left k h. (k, record { room = h.room; beacon = h.beacon; here = h.here; fresh_one = h.fresh_one; over_one = h.over_one })) (tasks r) (l.readers r z ne);
    }

-- `Idle` holds after a write returns
pub idle_after_write_ends : (top q x : ℕ) (u : Seen) (parts : ℕ → Seen) → ClearedFrom top 0 x u parts → Idle top (sees (Some (Wrote q)) u) parts
idle_after_write_ends top q x u parts c =
    let last : now_last u.writing u.last ≡ x = ap (λ w. now_last w u.last) c.writing in
    record {
      writing = refl;
      small = subst (λ y. y ≤ top) (sym last) c.small;
      one = subst (λ y. (parts y).last ≡ 1) (sym last) c.one;
      zeros = λ i l. c.zeros i (omega arith) (subst (λ y. i < y) last l);
      quiet = c.quiet;
    }

-- `SetsBit` holds after a write of x begins, and with it the write of 1 to bit x
pub sets_bit_after_write_begins : (top p x : ℕ) (u : Seen) (parts : ℕ → Seen) → Idle top u parts → x ≤ top → SetsBit top x (sees (Some (Invoke p (Write x))) u) (put x (being_set (parts x)) parts)
sets_bit_after_write_begins top p x u parts h l = record {
  writing = refl;
  small = l;
  here = ap (λ s. s.writing) (put_same x (being_set (parts x)) parts);
  quiet = λ i li ne. ap (λ s. s.writing) (put_other x i (being_set (parts x)) parts ne) ∙ h.quiet i li;
}

-- `ClearedFrom` holds after the write of 1 to bit x ends: no bit is to be 0 yet
pub cleared_after_set_ends : (top x : ℕ) (u : Seen) (parts : ℕ → Seen) → SetsBit top x u parts → ClearedFrom top x x u (put x (written (parts x)) parts)
cleared_after_set_ends top x u parts h = record {
  writing = h.writing;
  small = h.small;
  low = omega arith;
  one = ap (λ s. s.last) (put_same x (written (parts x)) parts) ∙ ap (λ w. now_last w (parts x).last) h.here;
  zeros = λ k lo hi. absurd (let n : ⊥ = omega (arith, lo, hi) in n);
  quiet = put_all (λ i s. i ≤ top → s.writing ≡ None) x (written (parts x)) parts (λ l. refl) (λ i ne l. h.quiet i l ne);
}

-- `ClearsBit` holds after a write of 0 to bit i begins
pub clears_bit_after_clear_begins : (top i x : ℕ) (u : Seen) (parts : ℕ → Seen) → ClearedFrom top (suc i) x u parts → ClearsBit top i x u (put i (being_cleared (parts i)) parts)
clears_bit_after_clear_begins top i x u parts c =
    let low : suc i ≤ x = c.low in
    record {
      writing = c.writing;
      small = c.small;
      low = omega (arith, low);
      one = put_all (λ y s. y ≡ x → s.last ≡ 1) i (being_cleared (parts i)) parts (λ e. subst (λ y. (parts y).last ≡ 1) (sym e) c.one) (λ y ne e. subst (λ y. (parts y).last ≡ 1) (sym e) c.one) x refl;
      zeros = put_all (λ k s. i < k → k < x → s.last ≡ 1 → ⊥) i (being_cleared (parts i)) parts (λ lo hi. absurd (let n : ⊥ = omega (arith, lo) in n)) (λ k ne lo hi. c.zeros k (omega (arith, lo)) hi);
      here = ap (λ s. s.writing) (put_same i (being_cleared (parts i)) parts);
      quiet = λ k l ne. ap (λ s. s.writing) (put_other i k (being_cleared (parts i)) parts ne) ∙ c.quiet k l;
    }

-- `ClearedFrom` holds after a write of 0 to bit i ends
pub cleared_after_clear_ends : (top i x : ℕ) (u : Seen) (parts : ℕ → Seen) → ClearsBit top i x u parts → ClearedFrom top i x u (put i (written (parts i)) parts)
cleared_after_clear_ends top i x u parts f =
    let low : i < x = f.low in
    record {
      writing = f.writing;
      small = f.small;
      low = omega (arith, low);
      one = put_all (λ y s. y ≡ x → s.last ≡ 1) i (written (parts i)) parts (λ e. absurd (let n : ⊥ = omega (arith, e, low) in n)) (λ y ne e. subst (λ y. (parts y).last ≡ 1) (sym e) f.one) x refl;
      zeros = put_all (λ k s. i ≤ k → k < x → s.last ≡ 1 → ⊥) i (written (parts i)) parts
          (λ lo hi e. not_zero_and_one _ (ap (λ w. now_last w (parts i).last) f.here) e)
          (λ k ne lo hi. f.zeros k (omega (arith, lo, ne)) hi);
      quiet = put_all (λ k s. k ≤ top → s.writing ≡ None) i (written (parts i)) parts (λ l. refl) (λ k ne l. f.quiet k l ne);
    }

-- in a step of any process, `HasBeacons` holds of no more reads than in one of the writer
pub has_beacons_in_any_step : (top p : ℕ) (u : Seen) (tasks : ℕ → Option (TaskInProgress UnaryTask)) (parts : ℕ → Seen) → HasBeacons top 0 u tasks parts → HasBeacons top p u tasks parts
has_beacons_in_any_step top p u tasks parts l = record { overlap = l.overlap; ready = l.ready; readers = λ r z ne. l.readers r z z }

-- `HasBeacons` holds after p's step ends with task x, or with none, if what this task says holds
pub has_beacons_after_step : (top p : ℕ) (u : Seen) (x : Option (TaskInProgress UnaryTask)) (tasks : ℕ → Option (TaskInProgress UnaryTask)) (parts : ℕ → Seen) → HasBeacons top p u tasks parts
    → ((p ≡ 0 → ⊥) → ReaderSays top p x u parts) → HasBeacons top 0 u (put p x tasks) parts
has_beacons_after_step top p u x tasks parts l mine = record {
  overlap = l.overlap;
  ready = l.ready;
  readers = λ r z none. elim (cases_eq r p) [
    | inl e ↦ subst (λ q. ReaderSays top q (put p x tasks q) u parts) (sym e)
        (subst (λ y. ReaderSays top p y u parts) (sym (put_same p x tasks)) (mine (λ f. z (e ∙ f))))
    | inr ne ↦ subst (λ y. ReaderSays top r y u parts) (sym (put_other p r x tasks ne)) (l.readers r z ne)
  ];
}
