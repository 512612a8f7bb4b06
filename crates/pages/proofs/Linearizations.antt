-- A history whose operations can be given ranks has a linearization. Each rank has `size` places:
-- the first is that of the write with this rank, and the reads with this rank follow by their
-- numbers.
use Rattle.std.proofs.Common.{◌≡◌, ℕ, zero, suc, ◌+◌, ◌<◌, ◌≤◌, ◌==◌, Bool, true, false, List, [], ◌∷◌, length, Option, Some, None, is_some, unwrap_or, max, ◌⊎◌, inl, inr, refl, sym, ap, subst, ◌∙◌, true≢false, arith, eq-eqb}
use Rattle.std.specs.Prelude.{if◌then◌else◌}
use Rattle.std.proofs.lemmas.Bool.{eqb-true, cases_lt, cases_eq}
use Rattle.std.proofs.lemmas.Option.{none-some}
use Rattle.frames.specs.declared.types.Op.{Op}
use Rattle.frames.specs.declared.types.Op.TheVariants as op
use Rattle.frames.specs.declared.types.Layer.{Layer}
use Rattle.frames.specs.declared.types.Event.{Event}
use Rattle.frames.specs.declared.types.Event.TheVariants.{Invoke, Got, Wrote, Refused, Void, Stop, Chosen}
use Rattle.frames.specs.Behaviour.{Behaviour}
use Rattle.frames.specs.Recorded.{recorded}
use Rattle.frames.specs.correctness.Ranks.{Ranking, at_first, HasRank, after_rank, Ranked, HasRanks, IsAtomicForMany}
use Rattle.frames.proofs.Pointwise.{put, put_same, put_other}
use Rattle.pages.specs.VerdictWords.{begins_or_ends}
use Rattle.pages.specs.Linearizability.{event_at, Operation, EndsAt, is_return, Order, IsWriteBefore, IsLastWrite, IsValueAt, HasLinearization, IsLinearizable}

-- what is known before event number n, and the rank that this event is given
abbrev state_at : (r : Ranking) (events : List (ℕ × Event)) → Ranked r events → ℕ → Ranking
state_at r [] h n = r
state_at r (e ∷ es) h zero = r
state_at r (e ∷ es) h (suc n) = state_at (after_rank r e.1 h.0) es h.1.1 n

abbrev given_rank_at : (r : Ranking) (events : List (ℕ × Event)) → Ranked r events → ℕ → Option ℕ
given_rank_at r [] h n = None
given_rank_at r (e ∷ es) h zero = h.0
given_rank_at r (e ∷ es) h (suc n) = given_rank_at (after_rank r e.1 h.0) es h.1.1 n

state_first : (r : Ranking) (events : List (ℕ × Event)) (h : Ranked r events) → state_at r events h 0 ≡ r
state_first r [] h = refl
state_first r (e ∷ es) h = refl

-- the event e may have the rank n after r, and with it r becomes z
abbrev TakesRank : Ranking → Option ℕ → Ranking → Event → Type 0
TakesRank r n z e = HasRank r e n × (z ≡ after_rank r e n)

takes_rank_at : (r : Ranking) (events : List (ℕ × Event)) (h : Ranked r events) (n : ℕ) (e : Event) → event_at events n ≡ Some e → TakesRank (state_at r events h n) (given_rank_at r events h n) (state_at r events h (suc n)) e
takes_rank_at r [] h n e at = absurd (cc at)
takes_rank_at r (x ∷ es) h zero e at =
    subst (TakesRank r h.0 (state_at (after_rank r x.1 h.0) es h.1.1 0)) (ap (λ (o : Option Event). unwrap_or o x.1) at) (h.1.0, state_first (after_rank r x.1 h.0) es h.1.1)
takes_rank_at r (x ∷ es) h (suc n) e at = takes_rank_at (after_rank r x.1 h.0) es h.1.1 n e at

state_at_past_end : (r : Ranking) (events : List (ℕ × Event)) (h : Ranked r events) (n : ℕ) → event_at events n ≡ None → state_at r events h (suc n) ≡ state_at r events h n
state_at_past_end r [] h n at = refl
state_at_past_end r (x ∷ es) h zero at = absurd (cc at)
state_at_past_end r (x ∷ es) h (suc n) at = state_at_past_end (after_rank r x.1 h.0) es h.1.1 n at

below_length : (events : List (ℕ × Event)) (n : ℕ) (e : Event) → event_at events n ≡ Some e → n < length events
below_length [] n e at = absurd (cc at)
below_length (x ∷ es) zero e at = omega arith
below_length (x ∷ es) (suc n) e at = let rest = below_length es n e at in omega (arith, rest)

-- no event makes the greatest rank less, or changes the value of a rank that has one
top_grows : (r : Ranking) (e : Event) (n : Option ℕ) → HasRank r e n → r.top ≤ (after_rank r e n).top
top_grows r (Invoke p (op.Write v)) (Some n) h = omega arith
top_grows r (Invoke p (op.Write v)) None h = omega arith
top_grows r (Invoke p op.Read) n h = omega arith
top_grows r (Got p v) (Some n) h = omega arith
top_grows r (Got p v) None h = absurd h
top_grows r (Wrote p) (Some n) h = omega arith
top_grows r (Wrote p) None h = absurd h
top_grows r (Refused p layer) n h = omega arith
top_grows r (Void p reason) n h = omega arith
top_grows r (Stop p) n h = omega arith
top_grows r (Chosen p bit v) n h = omega arith

pub value_stays : (r : Ranking) (e : Event) (n : Option ℕ) (m v : ℕ) → HasRank r e n → r.values m ≡ Some v → (after_rank r e n).values m ≡ Some v
value_stays r (Invoke p (op.Write u)) (Some n) m v h is = elim (cases_eq m n) [
  | inl same ↦ absurd (none-some v (sym h.1 ∙ sym (ap r.values same) ∙ is))
  | inr other ↦ put_other n m (Some u) r.values other ∙ is
]
value_stays r (Invoke p (op.Write u)) None m v h is = is
value_stays r (Invoke p op.Read) n m v h is = is
value_stays r (Got p u) (Some n) m v h is = is
value_stays r (Got p u) None m v h is = is
value_stays r (Wrote p) (Some n) m v h is = is
value_stays r (Wrote p) None m v h is = is
value_stays r (Refused p layer) n m v h is = is
value_stays r (Void p reason) n m v h is = is
value_stays r (Stop p) n m v h is = is
value_stays r (Chosen p bit u) n m v h is = is

-- the rank m had the value v before the event, or the event invokes a write of v with this rank
abbrev GetsOrHadValue : Ranking → Event → Option ℕ → ℕ → ℕ → Type 0
GetsOrHadValue r e n m v = (r.values m ≡ Some v) ⊎ ((p : ℕ) × ((e ≡ Invoke p (op.Write v)) × (n ≡ Some m)))

gets_or_had_value : (r : Ranking) (e : Event) (n : Option ℕ) (m v : ℕ) → (after_rank r e n).values m ≡ Some v → GetsOrHadValue r e n m v
gets_or_had_value r (Invoke p (op.Write u)) (Some n) m v is = elim (cases_eq m n) as (λ _. GetsOrHadValue r (Invoke p (op.Write u)) (Some n) m v) [
  | inl same ↦
      let now : Some u ≡ Some v = sym (put_same n (Some u) r.values) ∙ sym (ap (put n (Some u) r.values) same) ∙ is in
      inr (p, (ap (λ (o : Option ℕ). Invoke p (op.Write (unwrap_or o u))) now, ap Some (sym same)))
  | inr other ↦ inl (sym (put_other n m (Some u) r.values other) ∙ is)
]
gets_or_had_value r (Invoke p (op.Write u)) None m v is = inl is
gets_or_had_value r (Invoke p op.Read) n m v is = inl is
gets_or_had_value r (Got p u) (Some n) m v is = inl is
gets_or_had_value r (Got p u) None m v is = inl is
gets_or_had_value r (Wrote p) (Some n) m v is = inl is
gets_or_had_value r (Wrote p) None m v is = inl is
gets_or_had_value r (Refused p layer) n m v is = inl is
gets_or_had_value r (Void p reason) n m v is = inl is
gets_or_had_value r (Stop p) n m v is = inl is
gets_or_had_value r (Chosen p bit u) n m v is = inl is

-- what is known of a process is the same after an event that neither begins nor ends an operation
-- of the process
abbrev pub IsSameForProcess : ℕ → Ranking → Ranking → Type 0
IsSameForProcess p r z = (z.mine p ≡ r.mine p) × (z.floor p ≡ r.floor p)

differs : (p q : ℕ) → (q == p) ≡ false → p ≡ q → ⊥
differs p q t same = true≢false (sym (eq-eqb q p (sym same)) ∙ t)

pub own_stays : (p : ℕ) (r : Ranking) (e : Event) (n : Option ℕ) → begins_or_ends p e ≡ false → IsSameForProcess p r (after_rank r e n)
own_stays p r (Invoke q (op.Write v)) (Some n) t =
    (put_other q p (Some n) r.mine (differs p q t), put_other q p r.top r.floor (differs p q t))
own_stays p r (Invoke q (op.Write v)) None t =
    (put_other q p None r.mine (differs p q t), put_other q p r.top r.floor (differs p q t))
own_stays p r (Invoke q op.Read) n t = (put_other q p None r.mine (differs p q t), put_other q p r.top r.floor (differs p q t))
own_stays p r (Got q v) (Some n) t = (refl, refl)
own_stays p r (Got q v) None t = (refl, refl)
own_stays p r (Wrote q) (Some n) t = (put_other q p None r.mine (differs p q t), refl)
own_stays p r (Wrote q) None t = (refl, refl)
own_stays p r (Refused q layer) n t = (refl, refl)
own_stays p r (Void q reason) n t = (refl, refl)
own_stays p r (Stop q) n t = (refl, refl)
own_stays p r (Chosen q bit v) n t = (refl, refl)

-- the invocation of a write notes the write's rank, if any, and what the greatest rank was then
write_noted : (p v : ℕ) (r : Ranking) (n : Option ℕ) → ((after_rank r (Invoke p (op.Write v)) n).mine p ≡ n) × ((after_rank r (Invoke p (op.Write v)) n).floor p ≡ r.top)
write_noted p v r (Some n) = (put_same p (Some n) r.mine, put_same p r.top r.floor)
write_noted p v r None = (put_same p None r.mine, put_same p r.top r.floor)

-- induction from i on: if Q holds at i, and passes from each k not below i to k + 1, it holds at j
induction_from : (Q : ℕ → Type 0) (i : ℕ) → Q i → ((k : ℕ) → i ≤ k → Q k → Q (suc k)) → (j : ℕ) → i ≤ j → Q j
induction_from Q i base next zero low = subst Q (let none : i ≡ 0 = omega (arith, low) in none) base
induction_from Q i base next (suc j) low = elim (cases_eq i (suc j)) as (λ _. Q (suc j)) [
  | inl same ↦ subst Q same base
  | inr other ↦ let less : i ≤ j = grind (arith, low, other) in next j less (induction_from Q i base next j less)
]

-- the first place of the operations with rank n, if each rank has `size` places
abbrev places : ℕ → ℕ → ℕ
places size zero = 0
places size (suc n) = size + places size n

places_grow : (size m n : ℕ) → m < n → size + places size m ≤ places size n
places_grow size m zero less = absurd (omega (arith, less))
places_grow size m (suc n) less = elim (cases_lt m n) as (λ _. size + places size m ≤ places size (suc n)) [
  | inl under ↦ let rest = places_grow size m n under in omega (arith, rest)
  | inr over ↦ let same : m ≡ n = omega (arith, less, over) in subst (λ k. size + places size m ≤ size + places size k) same (omega arith)
]

-- places are in the order of the ranks m and n and, within a rank, of the offsets s and t
comes_before : (size m n s t : ℕ) → s < size → m ≤ n → (m ≡ n → s < t) → places size m + s < places size n + t
comes_before size m n s t small low turns = elim (cases_lt m n) as (λ _. places size m + s < places size n + t) [
  | inl under ↦ let more = places_grow size m n under in omega (arith, small, more)
  | inr over ↦
      let same : m ≡ n = omega (arith, low, over) in
      let turn : s < t = turns same in
      let alike : places size m ≡ places size n = ap (places size) same in
      omega (arith, turn, alike)
]

places_rise : (size m n : ℕ) → m ≤ n → places size m ≤ places size n
places_rise size m n low = elim (cases_lt m n) as (λ _. places size m ≤ places size n) [
  | inl under ↦ let more = places_grow size m n under in omega (arith, more)
  | inr over ↦ let same : m ≡ n = omega (arith, low, over) in subst (λ k. places size m ≤ places size k) same (omega arith)
]

-- of an event, if there is one, and the rank n that it is given: n if the event is the return of a
-- read, else `None`
abbrev rank_if_got : Option Event → Option ℕ → Option ℕ
rank_if_got (Some (Got p v)) n = n
rank_if_got o n = None

-- whether there is an event, and process p begins or ends an operation by it
abbrev pub is_own : ℕ → Option Event → Bool
is_own p None = false
is_own p (Some e) = begins_or_ends p e

pub some_if_is_some : (o : Option ℕ) → is_some o ≡ true → (n : ℕ) × (o ≡ Some n)
some_if_is_some (Some n) h = (n, refl)
some_if_is_some None h = absurd (true≢false (sym h))

got_if_ranked : (e : Event) (n : Option ℕ) → is_some (rank_if_got (Some e) n) ≡ true → (p : ℕ) × ((v : ℕ) × (e ≡ Got p v))
got_if_ranked (Got p v) n h = (p, (v, refl))
got_if_ranked (Invoke p o) n h = absurd (true≢false (sym h))
got_if_ranked (Wrote p) n h = absurd (true≢false (sym h))
got_if_ranked (Refused p layer) n h = absurd (true≢false (sym h))
got_if_ranked (Void p reason) n h = absurd (true≢false (sym h))
got_if_ranked (Stop p) n h = absurd (true≢false (sym h))
got_if_ranked (Chosen p bit v) n h = absurd (true≢false (sym h))

module _ (initial : ℕ) (history : List (ℕ × Event)) (ranks : HasRanks initial history) where
  abbrev first : ℕ
  first = ranks.0

  abbrev state : ℕ → Ranking
  state n = state_at (at_first first initial) history ranks.1 n

  abbrev given_rank : ℕ → Option ℕ
  given_rank n = given_rank_at (at_first first initial) history ranks.1 n

  takes_rank : (n : ℕ) (e : Event) → event_at history n ≡ Some e → TakesRank (state n) (given_rank n) (state (suc n)) e
  takes_rank n e at = takes_rank_at (at_first first initial) history ranks.1 n e at

  state_at_start : state 0 ≡ at_first first initial
  state_at_start = state_first (at_first first initial) history ranks.1

  state_past_end : (n : ℕ) → event_at history n ≡ None → state (suc n) ≡ state n
  state_past_end n at = state_at_past_end (at_first first initial) history ranks.1 n at

  -- Q holds after event number n if it holds before, and the event, if there is one, keeps it
  holds_after_event : (Q : Ranking → Type 0) (n : ℕ) → ((e : Event) → event_at history n ≡ Some e → HasRank (state n) e (given_rank n) → Q (after_rank (state n) e (given_rank n))) → Q (state n) → Q (state (suc n))
  holds_after_event Q n keeps was = by (event_at history n) refl
    where
      by : (o : Option Event) → event_at history n ≡ o → Q (state (suc n))
      by None at = subst Q (sym (state_past_end n at)) was
      by (Some e) at = let done = takes_rank n e at in subst Q (sym done.1) (keeps e at done.0)

  top_rises : (i j : ℕ) → i ≤ j → (state i).top ≤ (state j).top
  top_rises i j low = induction_from (λ k. (state i).top ≤ (state k).top) i (omega arith)
      (λ k less is. holds_after_event (λ r. (state i).top ≤ r.top) k (λ e at h. let more = top_grows (state k) e (given_rank k) h in omega (arith, is, more)) is) j low

  value_kept : (i j n v : ℕ) → i ≤ j → (state i).values n ≡ Some v → (state j).values n ≡ Some v
  value_kept i j n v low is = induction_from (λ k. (state k).values n ≡ Some v) i is
      (λ k less was. holds_after_event (λ r. r.values n ≡ Some v) k (λ e at h. value_stays (state k) e (given_rank k) n v h was) was) j low

  -- what is known of a process is the same until the process begins or ends an operation
  own_kept : (p i n : ℕ) → i < n → ((k : ℕ) (e : Event) → i < k → k < n → event_at history k ≡ Some e → begins_or_ends p e ≡ false) → IsSameForProcess p (state (suc i)) (state n)
  own_kept p i n less quiet = induction_from (λ k. k ≤ n → IsSameForProcess p (state (suc i)) (state k)) (suc i) (λ high. (refl, refl))
      (λ k low was high. let before : k ≤ n = omega (arith, high) in holds_after_event (IsSameForProcess p (state (suc i))) k (λ e at h.
      let one = own_stays p (state k) e (given_rank k) (quiet k e (omega (arith, low)) (omega (arith, high)) at) in
      let all = was before in
      (one.0 ∙ all.0, one.1 ∙ all.1)) (was before)) n (omega (arith, less)) (omega arith)

  -- a write of v is given the rank n; `HasOrigin` says that the value of a rank is that of such a
  -- write, or the initial one
  abbrev IsRankOfWrite : ℕ → ℕ → Type 0
  IsRankOfWrite n v = (i : ℕ) × ((p : ℕ) × ((event_at history i ≡ Some (Invoke p (op.Write v))) × (given_rank i ≡ Some n)))

  abbrev HasOrigin : ℕ → ℕ → Type 0
  HasOrigin n v = ((n ≡ first) × (v ≡ initial)) ⊎ IsRankOfWrite n v

  origin : (j n v : ℕ) → (state j).values n ≡ Some v → HasOrigin n v
  origin zero n v is = elim (cases_eq n first) as (λ _. HasOrigin n v) [
    | inl same ↦ inl (
      same,
      (
          let now : Some initial ≡ Some v = sym (put_same first (Some initial) (λ k. None)) ∙ sym (ap (put first (Some initial) (λ k. None)) same) ∙ sym (ap (λ (r : Ranking). r.values n) state_at_start) ∙ is in
          sym (ap (λ (o : Option ℕ). unwrap_or o initial) now)),
    )
    | inr other ↦ absurd (none-some v (sym (put_other first n (Some initial) (λ k. None) other) ∙ sym (ap (λ (r : Ranking). r.values n) state_at_start) ∙ is))
  ]
  origin (suc j) n v is = by (origin j n v) (event_at history j) refl
    where
      by : ((state j).values n ≡ Some v → HasOrigin n v) → (o : Option Event) → event_at history j ≡ o → HasOrigin n v
      by earlier None at = earlier (subst (λ (r : Ranking). r.values n ≡ Some v) (state_past_end j at) is)
      by earlier (Some e) at =
          let done = takes_rank j e at in
          elim (gets_or_had_value (state j) e (given_rank j) n v (subst (λ (r : Ranking). r.values n ≡ Some v) done.1 is)) as (λ _. HasOrigin n v) [
            | inl was ↦ earlier was
            | inr now ↦ inr (j, (now.0, (at ∙ ap Some now.1.0, now.1.1)))
          ]

  -- before event i, the rank n is above those of all operations that have returned, and has no
  -- value; after event i, it has the value v
  record IsWriteAt (i n v : ℕ) : Type 0 where
    above : (state i).top < n
    new : (state i).values n ≡ None
    value : (state (suc i)).values n ≡ Some v

  write_at : (i p n v : ℕ) → event_at history i ≡ Some (Invoke p (op.Write v)) → given_rank i ≡ Some n → IsWriteAt i n v
  write_at i p n v at is =
      let done : TakesRank (state i) (Some n) (state (suc i)) (Invoke p (op.Write v)) = subst (λ g. TakesRank (state i) g (state (suc i)) (Invoke p (op.Write v))) is (takes_rank i (Invoke p (op.Write v)) at) in
      record { above = done.0.0; new = done.0.1; value = ap (λ (r : Ranking). r.values n) done.1 ∙ put_same n (Some v) (state i).values }

  rank_not_reused : (i j n u v : ℕ) → i < j → IsWriteAt i n u → IsWriteAt j n v → ⊥
  rank_not_reused i j n u v less a b = none-some u (sym b.new ∙ value_kept (suc i) j n u (omega (arith, less)) a.value)

  one_write : (i j n u v : ℕ) → IsWriteAt i n u → IsWriteAt j n v → i ≡ j
  one_write i j n u v a b = elim (cases_lt i j) as (λ _. i ≡ j) [
    | inl less ↦ absurd (rank_not_reused i j n u v less a b)
    | inr more ↦ elim (cases_eq i j) as (λ _. i ≡ j) [
      | inl same ↦ same
      | inr other ↦ absurd (rank_not_reused j i n v u (grind (arith, more, other)) b a)
    ]
  ]

  -- the rank given to the first of m events, from number k on, by which p begins or ends an
  -- operation, if that event is the return of a read; else `None`
  abbrev return_rank : ℕ → ℕ → ℕ → Option ℕ
  return_rank p zero k = None
  return_rank p (suc m) k = if is_own p (event_at history k) then rank_if_got (event_at history k) (given_rank k) else return_rank p m (suc k)

  not_own_if_quiet : (p k : ℕ) → ((e : Event) → event_at history k ≡ Some e → begins_or_ends p e ≡ false) → is_own p (event_at history k) ≡ false
  not_own_if_quiet p k quiet = by (event_at history k) refl
    where
      by : (o : Option Event) → event_at history k ≡ o → is_own p o ≡ false
      by None at = refl
      by (Some e) at = quiet e at

  return_rank_at_end : (p m k j : ℕ) (e : Event) → k ≤ j → j < k + m → event_at history j ≡ Some e → begins_or_ends p e ≡ true
      → ((i : ℕ) (other : Event) → k ≤ i → i < j → event_at history i ≡ Some other → begins_or_ends p other ≡ false) → return_rank p m k ≡ rank_if_got (Some e) (given_rank j)
  return_rank_at_end p zero k j e low high at own quiet = let f : ⊥ = omega (arith, low, high) in absurd f
  return_rank_at_end p (suc m) k j e low high at own quiet = elim (cases_eq k j) as (λ _. return_rank p (suc m) k ≡ rank_if_got (Some e) (given_rank j)) [
    | inl same ↦
        ap (λ o. if is_own p o then rank_if_got o (given_rank k) else return_rank p m (suc k)) (ap (event_at history) same ∙ at)
        ∙ ap (λ b. if b then rank_if_got (Some e) (given_rank k) else return_rank p m (suc k)) own ∙ ap (λ i. rank_if_got (Some e) (given_rank i)) same
    | inr other ↦
        let less : k < j = grind (arith, low, other) in
        ap (λ b. if b then rank_if_got (event_at history k) (given_rank k) else return_rank p m (suc k)) (not_own_if_quiet p k (λ x there. quiet k x (omega arith) less there))
        ∙ return_rank_at_end p m (suc k) j e (omega (arith, less)) (omega (arith, high)) at own (λ i x after before there. quiet i x (omega (arith, after)) before there)
  ]

  -- the operation ends by giving a value, so it is a returned read
  abbrev ReturnsValue : Operation history → Type 0
  ReturnsValue o = (j : ℕ) × ((v : ℕ) × EndsAt o j (Got o.process v))

  returns_value_if_ranked : (o : Operation history) (m k : ℕ) → o.number < k → ((i : ℕ) (other : Event) → o.number < i → i < k → event_at history i ≡ Some other → begins_or_ends o.process other ≡ false)
      → is_some (return_rank o.process m k) ≡ true → ReturnsValue o
  returns_value_if_ranked o zero k low quiet found = absurd (true≢false (sym found))
  returns_value_if_ranked o (suc m) k low quiet found =
      by (λ none rest. returns_value_if_ranked o m (suc k) (omega (arith, low)) (later none) rest) (event_at history k) refl found
    where
      later : is_own o.process (event_at history k) ≡ false → (i : ℕ) (other : Event) → o.number < i → i < suc k → event_at history i ≡ Some other → begins_or_ends o.process other ≡ false
      later none i x after before there = elim (cases_eq i k) as (λ _. begins_or_ends o.process x ≡ false) [
        | inl same ↦ ap (is_own o.process) (sym there ∙ ap (event_at history) same) ∙ none
        | inr other ↦ quiet i x after (grind (arith, before, other)) there
      ]

      Further : Type 0
      Further = is_own o.process (event_at history k) ≡ false → is_some (return_rank o.process m (suc k)) ≡ true → ReturnsValue o

      here : Further → (e : Event) → event_at history k ≡ Some e → (b : Bool) → begins_or_ends o.process e ≡ b → is_some (if b then rank_if_got (Some e) (given_rank k) else return_rank o.process m (suc k)) ≡ true → ReturnsValue o
      here further e at true own rest =
          let read = got_if_ranked e (given_rank k) rest in
          let same : read.0 ≡ o.process = eqb-true read.0 o.process (sym (ap (begins_or_ends o.process) read.1.1) ∙ own) in
          let is : e ≡ Got o.process read.1.0 = read.1.1 ∙ ap (λ q. Got q read.1.0) same in
          (k, (read.1.0, record { later = low; there = at ∙ ap Some is; own = ap (begins_or_ends o.process) (sym is) ∙ own; first = quiet }))
      here further e at false own rest = further (ap (is_own o.process) at ∙ own) rest

      by : Further → (x : Option Event) → event_at history k ≡ x → is_some (if is_own o.process x then rank_if_got x (given_rank k) else return_rank o.process m (suc k)) ≡ true → ReturnsValue o
      by further None at rest = further (ap (is_own o.process) at) rest
      by further (Some e) at rest = here further e at (begins_or_ends o.process e) refl rest

  -- the rank of the operation that event i invokes, and (`offset_by`) the operation's offset within
  -- that rank: 0 for a write, i + 1 for a read
  abbrev rank_by : ℕ → Option Event → Option ℕ
  rank_by i (Some (Invoke p (op.Write v))) = given_rank i
  rank_by i (Some (Invoke p op.Read)) = return_rank p (length history) (suc i)
  rank_by i o = None

  abbrev offset_by : ℕ → Option Event → ℕ
  offset_by i (Some (Invoke p op.Read)) = suc i
  offset_by i o = 0

  abbrev size : ℕ
  size = suc (length history)

  abbrev rank_at : ℕ → Option ℕ
  rank_at i = rank_by i (event_at history i)

  abbrev offset_at : ℕ → ℕ
  offset_at i = offset_by i (event_at history i)

  -- the order, in which an operation has the place of its rank and offset
  abbrev order : Order
  order = record { has = λ i. is_some (rank_at i); place = λ i. places size (unwrap_or (rank_at i) 0) + offset_at i }

  -- an operation with the rank m and, within it, the offset t; these give its place in the order
  record HasPlace (o : Operation history) (m t : ℕ) : Type 0 where
    ranked : rank_at o.number ≡ Some m
    offset : offset_at o.number ≡ t
    place : order.place o.number ≡ places size m + t

  has_place : (o : Operation history) (m t : ℕ) → rank_at o.number ≡ Some m → offset_at o.number ≡ t → HasPlace o m t
  has_place o m t r s = record {
    ranked = r;
    offset = s;
    place = ap (λ (x : Option ℕ). places size (unwrap_or x 0) + offset_at o.number) r ∙ ap (λ u. places size m + u) s;
  }

  read_offset_small : (o : Operation history) → suc o.number < size
  read_offset_small o = let in_it = below_length history o.number (Invoke o.process o.op) o.invoked in omega (arith, in_it)

  -- a write of v in the order, with the rank m
  record IsPlacedWrite (o : Operation history) (v m : ℕ) : Type 0 where
    placed : HasPlace o m 0
    at : IsWriteAt o.number m v

  invoked_as : (o : Operation history) (x : Op) → o.op ≡ x → event_at history o.number ≡ Some (Invoke o.process x)
  invoked_as o x is = o.invoked ∙ ap (λ y. Some (Invoke o.process y)) is

  rank_of_write : (o : Operation history) (v : ℕ) → o.op ≡ op.Write v → rank_at o.number ≡ given_rank o.number
  rank_of_write o v is = ap (rank_by o.number) (invoked_as o (op.Write v) is)

  placed_write : (o : Operation history) (v m : ℕ) → o.op ≡ op.Write v → rank_at o.number ≡ Some m → IsPlacedWrite o v m
  placed_write o v m is r = record {
    placed = has_place o m 0 r (ap (offset_by o.number) (invoked_as o (op.Write v) is));
    at = write_at o.number o.process m v (invoked_as o (op.Write v) is) (sym (rank_of_write o v is) ∙ r);
  }

  -- a read of the order: its rank is that of the value which it gives, and not below those of all
  -- operations that had returned when it was invoked
  record IsPlacedRead (o : Operation history) (n v m : ℕ) : Type 0 where
    placed : HasPlace o m (suc o.number)
    low : (state o.number).top ≤ m
    value : (state n).values m ≡ Some v
    high : m ≤ (state (suc n)).top

  rank_of_read : (o : Operation history) (n : ℕ) (e : Event) → o.op ≡ op.Read → EndsAt o n e → rank_at o.number ≡ rank_if_got (Some e) (given_rank n)
  rank_of_read o n e is ends =
      ap (rank_by o.number) (invoked_as o op.Read is)
      ∙ return_rank_at_end o.process (length history) (suc o.number) n e (let later = ends.later in omega (arith, later)) (let in_it = below_length history n e ends.there in omega (arith, in_it)) ends.there ends.own
      (λ i other after before there. ends.first i other (omega (arith, after)) before there)

  placed_read : (o : Operation history) (n v : ℕ) → o.op ≡ op.Read → EndsAt o n (Got o.process v) → (m : ℕ) × IsPlacedRead o n v m
  placed_read o n v is ends = by (given_rank n) refl
    where
      p : ℕ
      p = o.process

      began : TakesRank (state o.number) (given_rank o.number) (state (suc o.number)) (Invoke o.process op.Read)
      began = takes_rank o.number (Invoke o.process op.Read) (invoked_as o op.Read is)

      floor : (state n).floor o.process ≡ (state o.number).top
      floor = (own_kept o.process o.number n ends.later ends.first).1 ∙ ap (λ (r : Ranking). r.floor o.process) began.1 ∙ put_same o.process (state o.number).top (state o.number).floor

      by : (g : Option ℕ) → given_rank n ≡ g → (m : ℕ) × IsPlacedRead o n v m
      by None none = absurd ((subst (λ g. TakesRank (state n) g (state (suc n)) (Got o.process v)) none (takes_rank n (Got o.process v) ends.there)).0)
      by (Some m) some =
          let done : TakesRank (state n) (Some m) (state (suc n)) (Got o.process v) = subst (λ g. TakesRank (state n) g (state (suc n)) (Got o.process v)) some (takes_rank n (Got o.process v) ends.there) in
          let top : (state (suc n)).top ≡ max (state n).top m = ap (λ (r : Ranking). r.top) done.1 in
          let lowest : (state n).floor o.process ≤ m = done.0.0 in (
            m,
            record {
              placed = has_place o m (suc o.number) (rank_of_read o n (Got o.process v) is ends ∙ some) (ap (offset_by o.number) (invoked_as o op.Read is));
              low = omega (arith, lowest, floor);
              value = done.0.1;
              high = omega (arith, top);
            },
          )

  -- the rank that a write took is known until it ends
  write_kept : (o : Operation history) (v n : ℕ) (e : Event) → o.op ≡ op.Write v → EndsAt o n e → (state n).mine o.process ≡ rank_at o.number
  write_kept o v n e is ends =
      (own_kept o.process o.number n ends.later ends.first).0
      ∙ ap (λ (r : Ranking). r.mine o.process) (takes_rank o.number (Invoke o.process (op.Write v)) (invoked_as o (op.Write v) is)).1
      ∙ (write_noted o.process v (state o.number) (given_rank o.number)).0 ∙ sym (rank_of_write o v is)

  -- an operation that returns in event n is in the order; its rank is at most the greatest after n
  record IsPlacedReturn (o : Operation history) (n : ℕ) : Type 0 where
    rank : ℕ
    offset : ℕ
    placed : HasPlace o rank offset
    high : rank ≤ (state (suc n)).top
    early : offset ≤ suc o.number

  returned_write : (o : Operation history) (n v : ℕ) → o.op ≡ op.Write v → EndsAt o n (Wrote o.process) → IsPlacedReturn o n
  returned_write o n v is ends = by (given_rank n) refl
    where
      by : (g : Option ℕ) → given_rank n ≡ g → IsPlacedReturn o n
      by None none = absurd ((subst (λ g. TakesRank (state n) g (state (suc n)) (Wrote o.process)) none (takes_rank n (Wrote o.process) ends.there)).0)
      by (Some m) some =
          let done : TakesRank (state n) (Some m) (state (suc n)) (Wrote o.process) = subst (λ g. TakesRank (state n) g (state (suc n)) (Wrote o.process)) some (takes_rank n (Wrote o.process) ends.there) in
          let top : (state (suc n)).top ≡ max (state n).top m = ap (λ (r : Ranking). r.top) done.1 in
          record {
            rank = m;
            offset = 0;
            placed = (placed_write o v m is (sym (write_kept o v n (Wrote o.process) is ends) ∙ done.0)).placed;
            high = omega (arith, top);
            early = omega arith;
          }

  placed_return : (o : Operation history) (n : ℕ) (end : Event) → EndsAt o n end → is_return o.op end ≡ true → IsPlacedReturn o n
  placed_return o n end ends h = by o.op refl end ends h
    where
      by : (x : Op) → o.op ≡ x → (e : Event) → EndsAt o n e → is_return x e ≡ true → IsPlacedReturn o n
      by (op.Write v) is (Wrote q) ends h = returned_write o n v is (subst (λ r. EndsAt o n (Wrote r)) (eqb-true q o.process ends.own) ends)
      by op.Read is (Got q v) ends h =
          let r = placed_read o n v is (subst (λ r. EndsAt o n (Got r v)) (eqb-true q o.process ends.own) ends) in
          record { rank = r.0; offset = suc o.number; placed = r.1.placed; high = r.1.high; early = omega arith }
      by (op.Write v) is e ends h = absurd (true≢false (sym h))
      by op.Read is e ends h = absurd (true≢false (sym h))

  refused_not_in_order : (o : Operation history) (n : ℕ) (layer : Layer) → EndsAt o n (Refused o.process layer) → order.has o.number ≡ false
  refused_not_in_order o n layer ends = by o.op refl
    where
      by : (x : Op) → o.op ≡ x → order.has o.number ≡ false
      by (op.Write v) is = ap is_some (sym (write_kept o v n (Refused o.process layer) is ends) ∙ (takes_rank n (Refused o.process layer) ends.there).0)
      by op.Read is = ap is_some (rank_of_read o n (Refused o.process layer) is ends)

  returns_value_if_in_order : (o : Operation history) → o.op ≡ op.Read → order.has o.number ≡ true → ReturnsValue o
  returns_value_if_in_order o is h =
      returns_value_if_ranked o (length history) (suc o.number) (omega arith) (λ i other after before there. let f : ⊥ = omega (arith, after, before) in absurd f)
      (sym (ap (λ x. is_some (rank_by o.number x)) (invoked_as o op.Read is)) ∙ h)

  pending_not_in_order : (o : Operation history) → o.op ≡ op.Read → ((n v : ℕ) → ¬ EndsAt o n (Got o.process v)) → order.has o.number ≡ false
  pending_not_in_order o is none = by (order.has o.number) refl
    where
      by : (b : Bool) → order.has o.number ≡ b → order.has o.number ≡ false
      by true h = let g = returns_value_if_in_order o is h in absurd (none g.0 g.1.0 g.1.1)
      by false h = h

  -- an operation of the order: a write at offset 0 of its rank, or a read at an offset of its own
  abbrev HasOffset : Operation history → ℕ → ℕ → Type 0
  HasOffset o m s = ((s ≡ 0) × ((v : ℕ) × IsWriteAt o.number m v)) ⊎ (s ≡ suc o.number)

  -- an operation in the order, with its rank and its offset
  record IsInOrder (o : Operation history) : Type 0 where
    rank : ℕ
    offset : ℕ
    placed : HasPlace o rank offset
    low : (state o.number).top ≤ rank
    has_offset : HasOffset o rank offset

  is_in_order : (o : Operation history) → order.has o.number ≡ true → IsInOrder o
  is_in_order o h = by o.op refl
    where
      by : (x : Op) → o.op ≡ x → IsInOrder o
      by (op.Write v) is =
          let m = some_if_is_some (rank_at o.number) h in
          let w = placed_write o v m.0 is m.1 in
          let above = w.at.above in
          record { rank = m.0; offset = 0; placed = w.placed; low = omega (arith, above); has_offset = inl (refl, (v, w.at)) }
      by op.Read is =
          let g = returns_value_if_in_order o is h in
          let r = placed_read o g.0 g.1.0 is g.1.1 in
          record { rank = r.0; offset = suc o.number; placed = r.1.placed; low = r.1.low; has_offset = inr refl }

  offset_small : (o : Operation history) (m s : ℕ) → HasOffset o m s → s < size
  offset_small o m s (inl w) = let zero_turn = w.0 in omega (arith, zero_turn)
  offset_small o m s (inr r) = let small = read_offset_small o in omega (arith, small, r)

  -- an operation whose rank isn't above the greatest when it was invoked is a read
  late_is_read : (o : Operation history) (m s : ℕ) → HasOffset o m s → m ≤ (state o.number).top → s ≡ suc o.number
  late_is_read o m s (inl w) high = let above = w.1.1.above in let f : ⊥ = omega (arith, above, high) in absurd f
  late_is_read o m s (inr r) high = r

  placed_in_time : (o x : Operation history) (n : ℕ) (end : Event) → EndsAt o n end → is_return o.op end ≡ true → n < x.number → order.has x.number ≡ true → order.place o.number < order.place x.number
  placed_in_time o x n end ends h late in_it =
      let a = placed_return o n end ends h in
      let b = is_in_order x in_it in
      let first_place = a.placed.place in
      let second_place = b.placed.place in
      let rises = top_rises (suc n) x.number (omega (arith, late)) in
      let high = a.high in
      let low = b.low in
      let early = a.early in
      let small = read_offset_small o in
      let after = ends.later in
      let less = comes_before size a.rank b.rank a.offset b.offset (omega (arith, early, small)) (omega (arith, high, rises, low))
      (λ same. let turn = late_is_read x b.rank b.offset b.has_offset (omega (arith, same, high, rises)) in omega (arith, early, turn, late, after)) in
      omega (arith, less, first_place, second_place)

  number_by_offset : (o x : Operation history) (m s : ℕ) → HasOffset o m s → HasOffset x m s → o.number ≡ x.number
  number_by_offset o x m s (inl a) (inl b) = one_write o.number x.number m a.1.0 b.1.0 a.1.1 b.1.1
  number_by_offset o x m s (inr a) (inr b) = omega (arith, a, b)
  number_by_offset o x m s (inl a) (inr b) = let zero_turn = a.0 in let f : ⊥ = omega (arith, zero_turn, b) in absurd f
  number_by_offset o x m s (inr a) (inl b) = let zero_turn = b.0 in let f : ⊥ = omega (arith, zero_turn, a) in absurd f

  -- an operation at no later place than another has no greater rank
  rank_not_greater : (o x : Operation history) (a : IsInOrder o) (b : IsInOrder x) → order.place o.number ≤ order.place x.number → a.rank ≤ b.rank
  rank_not_greater o x a b low = elim (cases_lt b.rank a.rank) as (λ _. a.rank ≤ b.rank) [
    | inl under ↦
        let less = comes_before size b.rank a.rank b.offset a.offset (offset_small x b.rank b.offset b.has_offset) (omega (arith, under)) (λ same. absurd (omega (arith, same, under))) in
        let first_place = a.placed.place in
        let second_place = b.placed.place in
        let f : ⊥ = omega (arith, less, low, first_place, second_place) in absurd f
    | inr over ↦ over
  ]

  one_at_each_place : (o x : Operation history) → order.has o.number ≡ true → order.has x.number ≡ true → order.place o.number ≡ order.place x.number → o.number ≡ x.number
  one_at_each_place o x h k same =
      let a = is_in_order o h in
      let b = is_in_order x k in
      let low = rank_not_greater o x a b (omega (arith, same)) in
      let high = rank_not_greater x o b a (omega (arith, same)) in
      let one : b.rank ≡ a.rank = omega (arith, low, high) in
      let alike : places size b.rank ≡ places size a.rank = ap (places size) one in
      let first_place = a.placed.place in
      let second_place = b.placed.place in
      let turns : b.offset ≡ a.offset = omega (arith, alike, first_place, second_place, same) in
      number_by_offset o x a.rank a.offset a.has_offset (subst (λ m. HasOffset x m a.offset) one (subst (λ s. HasOffset x b.rank s) turns b.has_offset))

  -- a read gives the value of the last write before its place, or the initial value
  value_of_read : (o : Operation history) (n v : ℕ) → o.op ≡ op.Read → EndsAt o n (Got o.process v) → IsValueAt initial history order (order.place o.number) v
  value_of_read o n v is ends =
      elim (origin n m v r.value) as (λ _. IsValueAt initial history order (order.place o.number) v) [
        | inl start ↦ inr ((λ other u w. none other u w start.0), start.1)
        | inr w ↦ inl (write w)
      ]
    where
      m : ℕ
      m = (placed_read o n v is ends).0

      r : IsPlacedRead o n v (placed_read o n v is ends).0
      r = (placed_read o n v is ends).1

      -- a write before the read's place has no greater rank
      under : (other : Operation history) (u : ℕ) → IsWriteBefore order (order.place o.number) u other → (k : ℕ) × (IsPlacedWrite other u k × (k ≤ m))
      under other u w =
          let k = some_if_is_some (rank_at other.number) w.in_it in
          let wrote = placed_write other u k.0 w.writes k.1 in (
            k.0,
            (
              wrote,
              elim (cases_lt m k.0) as (λ _. k.0 ≤ m) [
                | inl less ↦
                    let after = comes_before size m k.0 (suc o.number) 0 (read_offset_small o) (omega (arith, less)) (λ same. absurd (omega (arith, same, less))) in
                    let before = w.before in
                    let first_place = wrote.placed.place in
                    let second_place = r.placed.place in
                    let f : ⊥ = omega (arith, after, before, first_place, second_place) in absurd f
                | inr over ↦ over
              ],
            ),
          )

      none : (other : Operation history) (u : ℕ) → IsWriteBefore order (order.place o.number) u other → m ≡ first → ⊥
      none other u w start =
          let k = under other u w in
          let above = k.1.0.at.above in
          let rises = top_rises 0 other.number (omega arith) in
          let least : (state 0).top ≡ first = ap (λ (r : Ranking). r.top) state_at_start in
          let low = k.1.1 in
          omega (arith, above, rises, least, low, start)

      write : IsRankOfWrite m v → IsLastWrite history order (order.place o.number) v
      write w =
          let it : Operation history = record { number = w.0; process = w.1.0; op = op.Write v; invoked = w.1.1.0 } in
          let wrote = placed_write it v m refl (rank_of_write it v refl ∙ w.1.1.1) in
          let first_place = wrote.placed.place in
          let second_place = r.placed.place in
          record {
            write = it;
            is_before = record { writes = refl; in_it = ap is_some wrote.placed.ranked; before = omega (arith, first_place, second_place) };
            last = λ other u x.
                let k = under other u x in
                let low = places_rise size k.0 m k.1.1 in
                let third_place = k.1.0.placed.place in
                omega (arith, low, third_place, first_place);
          }

pub ranks_linearize : (initial : ℕ) (history : List (ℕ × Event)) → HasRanks initial history → HasLinearization initial history
ranks_linearize initial history ranks = record {
  order = order initial history ranks;
  returned = λ o n end ends h. ap is_some (placed_return initial history ranks o n end ends h).placed.ranked;
  refused = λ o n layer ends. refused_not_in_order initial history ranks o _ layer ends;
  unreturned = λ o is none. pending_not_in_order initial history ranks o is none;
  one_each = λ o x h k same. one_at_each_place initial history ranks o x h k same;
  in_time = λ o x n end ends h late in_it. placed_in_time initial history ranks o x n end ends h (omega (arith, late)) in_it;
  reads = λ o n v is ends. value_of_read initial history ranks o n v is ends;
}

pub linearizes : {P : Type 0} (b : Behaviour P) → IsAtomicForMany b → IsLinearizable b
linearizes b ranked = λ value steps within fit. ranks_linearize value (recorded b value steps) (ranked value steps within fit)
