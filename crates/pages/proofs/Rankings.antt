-- A well-formed history that has a linearization can be given ranks: a write's is one more than its
-- place, and a read has the rank of the last write before it, or 0.
use Rattle.std.proofs.Common.{◌≡◌, ℕ, zero, suc, ◌+◌, ◌<◌, ◌≤◌, Bool, true, false, List, [], ◌∷◌, ◌++◌, length, Option, Some, None, unwrap_or, max, ◌⊎◌, inl, inr, refl, sym, ap, subst, ◌∙◌, true≢false, arith, eq-eqb}
use Rattle.std.specs.Prelude.{◌↔◌, if◌then◌else◌}
use Rattle.std.specs.List.{list_any}
use Rattle.std.proofs.lemmas.Bool.{cases_lt, cases_eq, or_parts}
use Rattle.frames.specs.declared.types.Op.{Op}
use Rattle.frames.specs.declared.types.Op.TheVariants as op
use Rattle.frames.specs.declared.types.Layer.{Layer}
use Rattle.frames.specs.declared.types.Event.{Event}
use Rattle.frames.specs.declared.types.Event.TheVariants.{Invoke, Got, Wrote, Refused, Void, Stop, Chosen}
use Rattle.frames.specs.Behaviour.{Behaviour}
use Rattle.frames.specs.Recorded.{recorded}
use Rattle.frames.specs.correctness.Ranks.{Ranking, at_first, HasRank, after_rank, Ranked, HasRanks, IsAtomicForMany}
use Rattle.frames.proofs.Pointwise.{put_same, put_other}
use Rattle.pages.specs.VerdictWords.{begins_or_ends, IsQuiet, InProgress, IsWellFormed, RecordsWellFormed}
use Rattle.pages.specs.Linearizability.{event_at, Operation, EndsAt, IsWriteBefore, IsLastWrite, IsValueAt, HasLinearization, IsLinearizable}
use Rattle.pages.proofs.Linearizations.{value_stays, own_stays, linearizes}

-- events by their numbers, in a list that is split
event_at_split : (xs ys : List (ℕ × Event)) (x : ℕ × Event) → event_at (xs ++ x ∷ ys) (length xs) ≡ Some x.1
event_at_split [] ys x = refl
event_at_split (z ∷ xs) ys x = event_at_split xs ys x

event_at_left : (xs ys : List (ℕ × Event)) (k : ℕ) → k < length xs → event_at (xs ++ ys) k ≡ event_at xs k
event_at_left [] ys k less = absurd (omega (arith, less))
event_at_left (z ∷ xs) ys zero less = refl
event_at_left (z ∷ xs) ys (suc k) less = event_at_left xs ys k (omega (arith, less))

event_at_after : (xs ys : List (ℕ × Event)) (x : ℕ × Event) (k : ℕ) (e : Event) → length xs < k → event_at (xs ++ x ∷ ys) k ≡ Some e → (j : ℕ) × (event_at ys j ≡ Some e)
event_at_after [] ys x zero e less at = absurd (omega (arith, less))
event_at_after [] ys x (suc k) e less at = (k, at)
event_at_after (z ∷ xs) ys x zero e less at = absurd (omega (arith, less))
event_at_after (z ∷ xs) ys x (suc k) e less at = event_at_after xs ys x k e (omega (arith, less)) at

-- a history, split at event number n, which is e
record IsSplit (history : List (ℕ × Event)) (n : ℕ) (e : Event) : Type 0 where
  earlier : List (ℕ × Event)
  step : ℕ
  later : List (ℕ × Event)
  split : history ≡ earlier ++ (step, e) ∷ later
  place : length earlier ≡ n

split_at : (history : List (ℕ × Event)) (n : ℕ) (e : Event) → event_at history n ≡ Some e → IsSplit history n e
split_at [] n e at = absurd (cc at)
split_at (x ∷ es) zero e at = record { earlier = []; step = x.0; later = es; split = ap (λ (o : Option Event). (x.0, unwrap_or o x.1) ∷ es) at; place = refl }
split_at (x ∷ es) (suc n) e at =
    let s = split_at es n e at in
    record { earlier = x ∷ s.earlier; step = s.step; later = s.later; split = ap (λ l. x ∷ l) s.split; place = ap suc s.place }

quiet_at_number : (p : ℕ) (xs : List (ℕ × Event)) (k : ℕ) (e : Event) → IsQuiet p xs → event_at xs k ≡ Some e → begins_or_ends p e ≡ false
quiet_at_number p [] k e q at = absurd (cc at)
quiet_at_number p (x ∷ xs) zero e q at =
    subst (λ y. begins_or_ends p y ≡ false) (ap (λ (o : Option Event). unwrap_or o x.1) at) (or_parts (begins_or_ends p x.1) (list_any (λ y. begins_or_ends p y.1) xs) q).0
quiet_at_number p (x ∷ xs) (suc k) e q at = quiet_at_number p xs k e (or_parts (begins_or_ends p x.1) (list_any (λ y. begins_or_ends p y.1) xs) q).1 at

-- the operation that event number i invokes
abbrev operation_at : {history : List (ℕ × Event)} (i p : ℕ) (o : Op) → event_at history i ≡ Some (Invoke p o) → Operation history
operation_at i p o at = record { number = i; process = p; op = o; invoked = at }

-- event number n, which is e, ends an operation o of process p
abbrev EndsOperation : List (ℕ × Event) → ℕ → Op → ℕ → Event → Type 0
EndsOperation history p o n e = (i : ℕ) × ((at : event_at history i ≡ Some (Invoke p o)) × EndsAt (operation_at i p o at) n e)

ends_operation : (history : List (ℕ × Event)) (p : ℕ) (o : Op) (n : ℕ) (e : Event) (s : IsSplit history n e) → begins_or_ends p e ≡ true → InProgress p o s.earlier → EndsOperation history p o n e
ends_operation history p o n e s own w = (length w.earlier, (invoked, record { later = before; there = there; own = own; first = first }))
  where
    upto : List (ℕ × Event)
    upto = w.earlier ++ (w.step, Invoke p o) ∷ w.since

    before : length w.earlier < n
    before = subst (λ m. length w.earlier < m) s.place (subst (λ (l : List (ℕ × Event)). length w.earlier < length l) (sym w.split) (shorter w.earlier w.since (w.step, Invoke p o)))
      where
        shorter : (xs ys : List (ℕ × Event)) (x : ℕ × Event) → length xs < length (xs ++ x ∷ ys)
        shorter [] ys x = omega arith
        shorter (z ∷ xs) ys x = let rest = shorter xs ys x in omega (arith, rest)

    there : event_at history n ≡ Some e
    there = ap (λ l. event_at l n) s.split ∙ ap (event_at (s.earlier ++ (s.step, e) ∷ s.later)) (sym s.place) ∙ event_at_split s.earlier s.later (s.step, e)

    left : (k : ℕ) → k < n → event_at history k ≡ event_at (w.earlier ++ (w.step, Invoke p o) ∷ w.since) k
    left k less =
        let place = s.place in
        ap (λ l. event_at l k) s.split ∙ event_at_left s.earlier ((s.step, e) ∷ s.later) k (omega (arith, less, place)) ∙ ap (λ l. event_at l k) w.split

    invoked : event_at history (length w.earlier) ≡ Some (Invoke p o)
    invoked = left (length w.earlier) before ∙ event_at_split w.earlier w.since (w.step, Invoke p o)

    first : (k : ℕ) (other : Event) → length w.earlier < k → k < n → event_at history k ≡ Some other → begins_or_ends p other ≡ false
    first k other after less at =
        let j = event_at_after w.earlier w.since (w.step, Invoke p o) k other after (sym (left k less) ∙ at) in
        quiet_at_number p w.since j.0 other w.quiet j.1

same_process : (p q : ℕ) (o x : Op) → Some (Invoke p o) ≡ Some (Invoke q x) → p ≡ q
same_process p q o x e = cc e

same_op : (p q : ℕ) (o x : Op) → Some (Invoke p o) ≡ Some (Invoke q x) → o ≡ x
same_op p q o x e = cc e

got_is_not_invocation : (p q v : ℕ) (o : Op) → Some (Got p v) ≡ Some (Invoke q o) → ⊥
got_is_not_invocation p q v o e = cc e

-- an invocation leaves the greatest rank as it is, and notes it for the process
invoked_top : (r : Ranking) (p : ℕ) (o : Op) (g : Option ℕ) → (after_rank r (Invoke p o) g).top ≡ r.top
invoked_top r p (op.Write v) (Some n) = refl
invoked_top r p (op.Write v) None = refl
invoked_top r p op.Read g = refl

invoked_floor : (r : Ranking) (p : ℕ) (o : Op) (g : Option ℕ) → (after_rank r (Invoke p o) g).floor p ≡ r.top
invoked_floor r p (op.Write v) (Some n) = put_same p r.top r.floor
invoked_floor r p (op.Write v) None = put_same p r.top r.floor
invoked_floor r p op.Read g = put_same p r.top r.floor

module _ (initial : ℕ) (history : List (ℕ × Event)) (h : HasLinearization initial history) (well : IsWellFormed history) where
  abbrev has : ℕ → Bool
  has i = h.order.has i

  abbrev place : ℕ → ℕ
  place i = h.order.place i

  -- the rank is 0, or that of a write before this operation
  abbrev IsRankBefore : ℕ → Operation history → Type 0
  IsRankBefore m b = (m ≡ 0) ⊎ ((w : Operation history) × ((u : ℕ) × ((m ≡ suc (place w.number)) × IsWriteBefore h.order (place b.number) u w)))

  max_is_before : (m n : ℕ) (b : Operation history) → IsRankBefore m b → IsRankBefore n b → IsRankBefore (max m n) b
  max_is_before m n b x y = elim (cases_lt m n) as (λ _. IsRankBefore (max m n) b) [
    | inl less ↦ subst (λ k. IsRankBefore k b) (let e : n ≡ max m n = omega (arith, less) in e) y
    | inr more ↦ subst (λ k. IsRankBefore k b) (let e : m ≡ max m n = omega (arith, more) in e) x
  ]

  -- the rank that an operation takes as it is invoked
  abbrev taken : Op → ℕ → Option ℕ
  taken (op.Write v) i = if has i then Some (suc (place i)) else None
  taken op.Read i = None

  invoked_mine : (r : Ranking) (p : ℕ) (o : Op) (i : ℕ) → (after_rank r (Invoke p o) (taken o i)).mine p ≡ taken o i
  invoked_mine r p (op.Write v) i = by (has i)
    where
      by : (b : Bool) → (after_rank r (Invoke p (op.Write v)) (if b then Some (suc (place i)) else None)).mine p ≡ (if b then Some (suc (place i)) else None)
      by true = put_same p (Some (suc (place i))) r.mine
      by false = put_same p None r.mine
  invoked_mine r p op.Read i = put_same p None r.mine

  -- between its invocation and event number k, the process of `a` begins or ends no operation
  abbrev IsQuietUntil : Operation history → ℕ → Type 0
  IsQuietUntil a k = (j : ℕ) (e : Event) → a.number < j → j < k → event_at history j ≡ Some e → begins_or_ends a.process e ≡ false

  -- r agrees with the order, as what is known before event number k
  record AgreesBefore (k : ℕ) (r : Ranking) : Type 0 where
    top : (b : Operation history) → k ≤ b.number → has b.number ≡ true → IsRankBefore r.top b
    floor : (a : Operation history) → a.number < k → IsQuietUntil a k → has a.number ≡ true → IsRankBefore (r.floor a.process) a
    mine : (a : Operation history) → a.number < k → IsQuietUntil a k → r.mine a.process ≡ taken a.op a.number
    start : r.values 0 ≡ Some initial
    old : (w : Operation history) (v : ℕ) → w.number < k → w.op ≡ op.Write v → has w.number ≡ true → r.values (suc (place w.number)) ≡ Some v
    new : (b : Operation history) → k ≤ b.number → has b.number ≡ true → r.values (suc (place b.number)) ≡ None

  agrees_at_start : AgreesBefore 0 (at_first 0 initial)
  agrees_at_start = record {
    top = λ b low in_it. inl refl;
    floor = λ a less. absurd (omega (arith, less));
    mine = λ a less. absurd (omega (arith, less));
    start = refl;
    old = λ w v less. absurd (omega (arith, less));
    new = λ b low in_it. put_other 0 (suc (place b.number)) (Some initial) (λ n. None) (λ e. omega (arith, e));
  }

  -- `AgreesBefore` also holds after an event that is no invocation
  after_other : (k : ℕ) (r : Ranking) (e : Event) (g : Option ℕ) → AgreesBefore k r → event_at history k ≡ Some e → ((p : ℕ) (o : Op) → Some e ≡ Some (Invoke p o) → ⊥)
      → HasRank r e g → ((m : ℕ) → (after_rank r e g).values m ≡ r.values m) → ((b : Operation history) → k < b.number → has b.number ≡ true → IsRankBefore (after_rank r e g).top b) → AgreesBefore (suc k) (after_rank r e g)
  after_other k r e g f at not ranked same top = record {
    top = λ b low in_it. top b (omega (arith, low)) in_it;
    floor = λ a less quiet in_it. let was = earlier a less in
        subst (λ m. IsRankBefore m a) (sym (own_stays a.process r e g (quiet k e was (omega arith) at)).1)
        (f.floor a was (λ j x low high there. quiet j x low (omega (arith, high)) there) in_it);
    mine = λ a less quiet. let was = earlier a less in
        (own_stays a.process r e g (quiet k e was (omega arith) at)).0 ∙ f.mine a was (λ j x low high there. quiet j x low (omega (arith, high)) there);
    start = same 0 ∙ f.start;
    old = λ w v less is in_it. same (suc (place w.number)) ∙ f.old w v (earlier w less) is in_it;
    new = λ b low in_it. same (suc (place b.number)) ∙ f.new b (omega (arith, low)) in_it;
  }
    where
      earlier : (a : Operation history) → a.number < suc k → a.number < k
      earlier a less = elim (cases_eq a.number k) as (λ _. a.number < k) [
        | inl same ↦ absurd (not a.process a.op (sym at ∙ ap (event_at history) (sym same) ∙ a.invoked))
        | inr other ↦ grind (arith, less, other)
      ]

  -- an invocation may have the rank that `taken` gives: a rank for a write in the order, else none
  invocation_has_rank : (k p : ℕ) (o : Op) (r : Ranking) → AgreesBefore k r → (at : event_at history k ≡ Some (Invoke p o)) → HasRank r (Invoke p o) (taken o k)
  invocation_has_rank k p (op.Write v) r f at = by (has k) refl
    where
      above : IsRankBefore r.top (operation_at k p (op.Write v) at) → r.top < suc (place k)
      above (inl none) = omega (arith, none)
      above (inr w) = let is = w.1.1.0 in let before = w.1.1.1.before in omega (arith, is, before)

      by : (b : Bool) → has k ≡ b → HasRank r (Invoke p (op.Write v)) (if b then Some (suc (place k)) else None)
      by true in_it = (above (f.top (operation_at k p (op.Write v) at) (omega arith) in_it), f.new (operation_at k p (op.Write v) at) (omega arith) in_it)
      by false in_it = tt
  invocation_has_rank k p op.Read r f at = tt

  -- the invocation of a write in the order gives the write's rank a value, and changes no other
  value_of_new_rank : (k p : ℕ) (o : Op) (r : Ranking) (v : ℕ) → o ≡ op.Write v → has k ≡ true → (after_rank r (Invoke p o) (taken o k)).values (suc (place k)) ≡ Some v
  value_of_new_rank k p (op.Write u) r v is in_it = by (has k) in_it
    where
      same : u ≡ v
      same = ap (λ (o : Op). elim o [ op.Write x ↦ x | op.Read ↦ u ]) is

      by : (b : Bool) → b ≡ true → (after_rank r (Invoke p (op.Write u)) (if b then Some (suc (place k)) else None)).values (suc (place k)) ≡ Some v
      by true e = put_same (suc (place k)) (Some u) r.values ∙ ap Some same
      by false e = absurd (true≢false (sym e))
  value_of_new_rank k p op.Read r v is in_it = absurd (cc is)

  value_of_other_rank : (k p : ℕ) (o : Op) (r : Ranking) (m : ℕ) → (has k ≡ true → m ≡ suc (place k) → ⊥) → (after_rank r (Invoke p o) (taken o k)).values m ≡ r.values m
  value_of_other_rank k p (op.Write u) r m differs = by (has k) differs
    where
      by : (b : Bool) → (b ≡ true → m ≡ suc (place k) → ⊥) → (after_rank r (Invoke p (op.Write u)) (if b then Some (suc (place k)) else None)).values m ≡ r.values m
      by true n = put_other (suc (place k)) m (Some u) r.values (n refl)
      by false n = refl
  value_of_other_rank k p op.Read r m differs = refl

  after_invocation : (k p : ℕ) (o : Op) (r : Ranking) → AgreesBefore k r → (at : event_at history k ≡ Some (Invoke p o)) → AgreesBefore (suc k) (after_rank r (Invoke p o) (taken o k))
  after_invocation k p o r f at = record {
    top = λ b low in_it. subst (λ m. IsRankBefore m b) (sym (invoked_top r p o (taken o k))) (f.top b (omega (arith, low)) in_it);
    floor = λ a less quiet in_it. elim (cases_eq a.number k) as (λ _. IsRankBefore ((after_rank r (Invoke p o) (taken o k)).floor a.process) a) [
      | inl same ↦
          let mine = same_process a.process p a.op o (sym a.invoked ∙ ap (event_at history) same ∙ at) in
          subst (λ m. IsRankBefore m a) (sym (ap (after_rank r (Invoke p o) (taken o k)).floor mine ∙ invoked_floor r p o (taken o k))) (f.top a (omega (arith, same)) in_it)
      | inr other ↦
          let was : a.number < k = grind (arith, less, other) in
          subst (λ m. IsRankBefore m a) (sym (own_stays a.process r (Invoke p o) (taken o k) (quiet k (Invoke p o) was (omega arith) at)).1)
          (f.floor a was (λ j x low high there. quiet j x low (omega (arith, high)) there) in_it)
    ];
    mine = λ a less quiet. elim (cases_eq a.number k) as (λ _. (after_rank r (Invoke p o) (taken o k)).mine a.process ≡ taken a.op a.number) [
      | inl same ↦
          let both = sym a.invoked ∙ ap (event_at history) same ∙ at in
          ap (after_rank r (Invoke p o) (taken o k)).mine (same_process a.process p a.op o both) ∙ invoked_mine r p o k
          ∙ ap (λ x. taken x k) (sym (same_op a.process p a.op o both)) ∙ ap (taken a.op) (sym same)
      | inr other ↦
          let was : a.number < k = grind (arith, less, other) in
          (own_stays a.process r (Invoke p o) (taken o k) (quiet k (Invoke p o) was (omega arith) at)).0
          ∙ f.mine a was (λ j x low high there. quiet j x low (omega (arith, high)) there)
    ];
    start = value_stays r (Invoke p o) (taken o k) 0 initial (invocation_has_rank k p o r f at) f.start;
    old = λ w v less is in_it. elim (cases_eq w.number k) as (λ _. (after_rank r (Invoke p o) (taken o k)).values (suc (place w.number)) ≡ Some v) [
      | inl same ↦
          let both = sym w.invoked ∙ ap (event_at history) same ∙ at in
          ap (λ i. (after_rank r (Invoke p o) (taken o k)).values (suc (place i))) same
          ∙ value_of_new_rank k p o r v (sym (same_op w.process p w.op o both) ∙ is) (ap has (sym same) ∙ in_it)
      | inr other ↦ value_stays r (Invoke p o) (taken o k) (suc (place w.number)) v (invocation_has_rank k p o r f at) (f.old w v (grind (arith, less, other)) is in_it)
    ];
    new = λ b low in_it. value_of_other_rank k p o r (suc (place b.number)) (λ k_in same.
        let numbers = h.one_each b (operation_at k p o at) in_it k_in (omega (arith, same)) in omega (arith, numbers, low))
        ∙ f.new b (omega (arith, low)) in_it;
  }

  -- event number k, which is e, can have a rank, after which `AgreesBefore` holds at k + 1
  abbrev CanHaveRank : ℕ → Ranking → Event → Type 0
  CanHaveRank k r e = (g : Option ℕ) × (HasRank r e g × AgreesBefore (suc k) (after_rank r e g))

  got_has_rank : (k p v : ℕ) (r : Ranking) → AgreesBefore k r → event_at history k ≡ Some (Got p v) → CanHaveRank k r (Got p v)
  got_has_rank k p v r f at = by (h.reads (operation_at done.0 p op.Read done.1.0) k v refl done.1.1)
    where
      done : EndsOperation history p op.Read k (Got p v)
      done = ends_operation history p op.Read k (Got p v) (split_at history k (Got p v) at) (eq-eqb p p refl)
          (well (split_at history k (Got p v) at).earlier (split_at history k (Got p v) at).step (Got p v) (split_at history k (Got p v) at).later (split_at history k (Got p v) at).split)

      in_it : has done.0 ≡ true
      in_it = h.returned (operation_at done.0 p op.Read done.1.0) k (Got p v) done.1.1 refl

      floor_before : IsRankBefore (r.floor p) (operation_at done.0 p op.Read done.1.0)
      floor_before = f.floor (operation_at done.0 p op.Read done.1.0) done.1.1.later done.1.1.first in_it

      later : (m : ℕ) (b : Operation history) → k < b.number → has b.number ≡ true → IsRankBefore m (operation_at done.0 p op.Read done.1.0) → IsRankBefore m b
      later m b less b_in (inl none) = inl none
      later m b less b_in (inr w) =
          let before = w.1.1.1.before in
          let after = h.in_time (operation_at done.0 p op.Read done.1.0) b k (Got p v) done.1.1 refl (omega (arith, less)) b_in in
          inr (w.0, (w.1.0, (w.1.1.0, record { writes = w.1.1.1.writes; in_it = w.1.1.1.in_it; before = omega (arith, before, after) })))

      -- a rank that the read may have
      with_rank : (m : ℕ) → r.floor p ≤ m → r.values m ≡ Some v → IsRankBefore m (operation_at done.0 p op.Read done.1.0) → CanHaveRank k r (Got p v)
      with_rank m above value before = (
        Some m,
        (
          (above, value),
          after_other k r (Got p v) (Some m) f at (λ q o e. cc e) (above, value) (λ n. refl)
              (λ b less b_in. max_is_before r.top m b (f.top b (omega (arith, less)) b_in) (later m b less b_in before)),
        ),
      )

      above_last : (l : IsLastWrite history h.order (place done.0) v) → IsRankBefore (r.floor p) (operation_at done.0 p op.Read done.1.0) → r.floor p ≤ suc (place l.write.number)
      above_last l (inl none) = omega (arith, none)
      above_last l (inr w) = let is = w.1.1.0 in let last = l.last w.0 w.1.0 w.1.1.1 in omega (arith, is, last)

      early : (l : IsLastWrite history h.order (place done.0) v) → l.write.number < k
      early l = elim (cases_lt l.write.number k) as (λ _. l.write.number < k) [
        | inl less ↦ less
        | inr more ↦ elim (cases_eq l.write.number k) as (λ _. l.write.number < k) [
          | inl same ↦ absurd (got_is_not_invocation p l.write.process v l.write.op (sym at ∙ ap (event_at history) (sym same) ∙ l.write.invoked))
          | inr other ↦
              let before = l.is_before.before in
              let after = h.in_time (operation_at done.0 p op.Read done.1.0) l.write k (Got p v) done.1.1 refl (grind (arith, more, other)) l.is_before.in_it in
              absurd (omega (arith, before, after))
        ]
      ]

      above_first : ((other : Operation history) (u : ℕ) → IsWriteBefore h.order (place done.0) u other → ⊥) → IsRankBefore (r.floor p) (operation_at done.0 p op.Read done.1.0) → r.floor p ≤ 0
      above_first none (inl zero_floor) = omega (arith, zero_floor)
      above_first none (inr w) = absurd (none w.0 w.1.0 w.1.1.1)

      by : IsValueAt initial history h.order (place done.0) v → CanHaveRank k r (Got p v)
      by (inl l) = with_rank (suc (place l.write.number)) (above_last l floor_before) (f.old l.write v (early l) l.is_before.writes l.is_before.in_it) (inr (
        l.write,
        (
          v,
          (
            refl,
            record {
              writes = l.is_before.writes;
              in_it = l.is_before.in_it;
              before = (let before = l.is_before.before in omega (arith, before));
            },
          ),
        ),
      ))
      by (inr start) = with_rank 0 (above_first start.0 floor_before) (f.start ∙ ap Some (sym start.1)) (inl refl)

  wrote_has_rank : (k p : ℕ) (r : Ranking) → AgreesBefore k r → event_at history k ≡ Some (Wrote p) → CanHaveRank k r (Wrote p)
  wrote_has_rank k p r f at = (
    Some (suc (place done.0)),
    (
      mine,
      after_other k r (Wrote p) (Some (suc (place done.0))) f at (λ q o e. cc e) mine (λ n. refl)
          (λ b less b_in. max_is_before r.top (suc (place done.0)) b (f.top b (omega (arith, less)) b_in) (later b less b_in)),
    ),
  )
    where
      follows : (v : ℕ) × InProgress p (op.Write v) (split_at history k (Wrote p) at).earlier
      follows = well (split_at history k (Wrote p) at).earlier (split_at history k (Wrote p) at).step (Wrote p) (split_at history k (Wrote p) at).later (split_at history k (Wrote p) at).split

      done : EndsOperation history p (op.Write follows.0) k (Wrote p)
      done = ends_operation history p (op.Write follows.0) k (Wrote p) (split_at history k (Wrote p) at) (eq-eqb p p refl) follows.1

      in_it : has done.0 ≡ true
      in_it = h.returned (operation_at done.0 p (op.Write follows.0) done.1.0) k (Wrote p) done.1.1 refl

      mine : r.mine p ≡ Some (suc (place done.0))
      mine = f.mine (operation_at done.0 p (op.Write follows.0) done.1.0) done.1.1.later done.1.1.first ∙ ap (λ b. if b then Some (suc (place done.0)) else None) in_it

      later : (b : Operation history) → k < b.number → has b.number ≡ true → IsRankBefore (suc (place done.0)) b
      later b less b_in = inr (
        operation_at done.0 p (op.Write follows.0) done.1.0,
        (
          follows.0,
          (
            refl,
            record {
              writes = refl;
              in_it = in_it;
              before = h.in_time (operation_at done.0 p (op.Write follows.0) done.1.0) b k (Wrote p) done.1.1 refl (omega (arith, less)) b_in;
            },
          ),
        ),
      )

  refused_has_rank : (k p : ℕ) (layer : Layer) (r : Ranking) → AgreesBefore k r → event_at history k ≡ Some (Refused p layer) → CanHaveRank k r (Refused p layer)
  refused_has_rank k p layer r f at = (None, (mine, after_other k r (Refused p layer) None f at (λ q o e. cc e) mine (λ n. refl) (λ b less b_in. f.top b (omega (arith, less)) b_in)))
    where
      follows : (o : Op) × InProgress p o (split_at history k (Refused p layer) at).earlier
      follows = well (split_at history k (Refused p layer) at).earlier (split_at history k (Refused p layer) at).step (Refused p layer) (split_at history k (Refused p layer) at).later (split_at history k (Refused p layer) at).split

      done : EndsOperation history p follows.0 k (Refused p layer)
      done = ends_operation history p follows.0 k (Refused p layer) (split_at history k (Refused p layer) at) (eq-eqb p p refl) follows.1

      out : has done.0 ≡ false
      out = h.refused (operation_at done.0 p follows.0 done.1.0) k layer done.1.1

      none : (o : Op) → taken o done.0 ≡ None
      none (op.Write v) = ap (λ b. if b then Some (suc (place done.0)) else None) out
      none op.Read = refl

      mine : r.mine p ≡ None
      mine = f.mine (operation_at done.0 p follows.0 done.1.0) done.1.1.later done.1.1.first ∙ none follows.0

  event_has_rank : (k : ℕ) (r : Ranking) (e : Event) → AgreesBefore k r → event_at history k ≡ Some e → CanHaveRank k r e
  event_has_rank k r (Invoke p o) f at = (taken o k, (invocation_has_rank k p o r f at, after_invocation k p o r f at))
  event_has_rank k r (Got p v) f at = got_has_rank k p v r f at
  event_has_rank k r (Wrote p) f at = wrote_has_rank k p r f at
  event_has_rank k r (Refused p layer) f at = refused_has_rank k p layer r f at
  event_has_rank k r (Void p reason) f at = (None, (tt, after_other k r (Void p reason) None f at (λ q o e. cc e) tt (λ n. refl) (λ b less b_in. f.top b (omega (arith, less)) b_in)))
  event_has_rank k r (Stop p) f at = (None, (tt, after_other k r (Stop p) None f at (λ q o e. cc e) tt (λ n. refl) (λ b less b_in. f.top b (omega (arith, less)) b_in)))
  event_has_rank k r (Chosen p bit v) f at = (None, (tt, after_other k r (Chosen p bit v) None f at (λ q o e. cc e) tt (λ n. refl) (λ b less b_in. f.top b (omega (arith, less)) b_in)))

  events_have_ranks : (k : ℕ) (es : List (ℕ × Event)) (r : Ranking) → ((i : ℕ) → event_at es i ≡ event_at history (k + i)) → AgreesBefore k r → Ranked r es
  events_have_ranks k [] r same f = tt
  events_have_ranks k (e ∷ es) r same f =
      let at : event_at history k ≡ Some e.1 = ap (event_at history) (let n : k ≡ k + 0 = omega arith in n) ∙ sym (same 0) in
      let g = event_has_rank k r e.1 f at in
      (g.0, (g.1.0, events_have_ranks (suc k) es (after_rank r e.1 g.0) (λ i. same (suc i) ∙ ap (event_at history) (let n : k + suc i ≡ suc k + i = omega arith in n)) g.1.1))

pub linearization_ranked : (initial : ℕ) (history : List (ℕ × Event)) → IsWellFormed history → HasLinearization initial history → HasRanks initial history
linearization_ranked initial history well h =
    (0, events_have_ranks initial history h well 0 history (at_first 0 initial) (λ i. ap (event_at history) (let n : i ≡ 0 + i = omega arith in n)) (agrees_at_start initial history h well))

-- a register is atomic for many processes exactly if it is linearizable
pub linearizable_alike : {P : Type 0} (b : Behaviour P) → RecordsWellFormed b → IsAtomicForMany b ↔ IsLinearizable b
linearizable_alike b well = (
  linearizes b,
  λ h value steps within fit. linearization_ranked value (recorded b value steps) (well value steps within fit) (h value steps within fit),
)
