-- Operations that end one after another, as `after` lets them: either all end, and none has to
-- follow itself; or some can't, and one has to.
use Rattle.std.proofs.Common.{◌≡◌, ℕ, zero, suc, ◌+◌, ◌-◌, ◌<◌, ◌≤◌, ◌⊎◌, inl, inr, Bool, true, false, not, ◌&&◌, ◌||◌, List, [], ◌∷◌, ◌++◌, length, get_or, set, Option, Some, None, is_some, slice_get, replicate, refl, sym, ap, subst, ◌∙◌, true≢false, arith}
use Rattle.std.specs.Prelude.{◌==◌, if◌then◌else◌, nat_lt}
use Rattle.std.specs.Bool.{Decides}
use Rattle.std.specs.Global.{Vec}
use Rattle.std.specs.List.{list_all}
use Rattle.std.proofs.lemmas.Bool.{and_parts, cases_eq, cases_lt, ltb-true, ltb-false}
use Rattle.std.proofs.lemmas.Bool.Decides.{Decides-eqb}
use Rattle.std.proofs.Common.{eq-eqb, length-append}
use Rattle.std.proofs.lemmas.List.{get_or-set_same, get_or-set_other}
use Rattle.std.proofs.lemmas.Option.{none-some, same_Some, slice_get_within, slice_get_past}
use Rattle.frames.specs.declared.types.Op.{Op}
use Rattle.frames.specs.declared.types.Outcome.{Outcome}
use Rattle.frames.specs.declared.types.Outcome.TheVariants.{Written}
use Rattle.answers.specs.declared.question.After.{After}
use Rattle.answers.specs.declared.question.Question.{Question}
use Rattle.answers.specs.Questions.{IsAcyclic, allows, are_asked, next_of, operations_in, operations_of}
use Rattle.answers.specs.States.{ended_counts}

-- if each item passes a test, the item at index i does
passes_at : {X : Type 0} (test : X → Bool) (xs : List X) (i : ℕ) (x : X) → list_all test xs ≡ true → slice_get xs i ≡ Some x → test x ≡ true
passes_at test [] i x h g = absurd (none-some x g)
passes_at {X} test (y ∷ ys) i x h g = by (test y) refl h i g (λ j k l. passes_at test ys j x k l)
  where
    by : (b : Bool) → test y ≡ b → (b && list_all test ys) ≡ true → (j : ℕ) → slice_get (y ∷ ys) j ≡ Some x
        → ((k : ℕ) → list_all test ys ≡ true → slice_get ys k ≡ Some x → test x ≡ true) → test x ≡ true
    by true e k zero l later = ap test (sym (same_Some y x l)) ∙ e
    by true e k (suc j) l later = later j k l
    by false e k j l later = absurd (true≢false (sym k))

-- some item fails a test
record HasFailing {X : Type 0} (test : X → Bool) (xs : List X) : Type 0 where
  index : ℕ
  item : X
  stored : slice_get xs index ≡ Some item
  fails : test item ≡ false

-- if not each item passes a test, some item fails it
some_fails : {X : Type 0} (test : X → Bool) (xs : List X) → list_all test xs ≡ false → HasFailing test xs
some_fails test [] h = absurd (true≢false h)
some_fails {X} test (y ∷ ys) h = by (test y) refl h (some_fails test ys)
  where
    by : (b : Bool) → test y ≡ b → (b && list_all test ys) ≡ false → (list_all test ys ≡ false → HasFailing test ys) → HasFailing test (y ∷ ys)
    by true e k later = let f = later k in record { index = suc f.index; item = f.item; stored = f.stored; fails = f.fails }
    by false e k later = record { index = 0; item = y; stored = refl; fails = e }

-- if a list has no item i, it ends at i or before
none_past_end : {X : Type 0} (xs : List X) (i : ℕ) → slice_get xs i ≡ None → length xs ≤ i
none_past_end [] i h = omega arith
none_past_end (x ∷ xs) zero h = absurd (none-some x (sym h))
none_past_end (x ∷ xs) (suc i) h = let l = none_past_end xs i h in omega (arith, l)

-- the rank of operation n of process p is raised to a limit
abbrev raised : (ℕ → ℕ → ℕ) → ℕ → ℕ → ℕ → ℕ → ℕ → ℕ
raised rank limit p n r i = if (r == p) && (i == n) then limit else rank r i

-- the ranks of that operation, and of the others
raised_here : (rank : ℕ → ℕ → ℕ) (limit p n r i : ℕ) → r ≡ p → i ≡ n → raised rank limit p n r i ≡ limit
raised_here rank limit p n r i e f j = if (eq-eqb r p e j) && (eq-eqb i n f j) then limit else rank r i

raised_elsewhere : (rank : ℕ → ℕ → ℕ) (limit p n r i : ℕ) → (r ≡ p → i ≡ n → ⊥) → raised rank limit p n r i ≡ rank r i
raised_elsewhere rank limit p n r i differs = by (r == p) (i == n) refl refl
  where
    by : (s t : Bool) → (r == p) ≡ s → (i == n) ≡ t → (if s && t then limit else rank r i) ≡ rank r i
    by true true e f = absurd (differs ((Decides-eqb r p).0 e) ((Decides-eqb i n).0 f))
    by true false e f = refl
    by false t e f = refl

-- the number of operations that are asked and haven't ended
abbrev pub missing : List (Vec Op) → List (List Outcome) → ℕ
missing os [] = 0
missing [] (e ∷ es) = 0
missing (o ∷ os) (e ∷ es) = (length o.items - length e) + missing os es

-- once one more has ended, one less is missing
pub missing_less : (os : List (Vec Op)) (es : List (List Outcome)) (p : ℕ) (o : Op) → p < length es
    → slice_get (operations_in (slice_get os p)) (length (get_or es p [])) ≡ Some o
    → missing os (set es p (get_or es p [] ++ Written ∷ [])) < missing os es
missing_less os [] p o lt h = absurd (omega (arith, lt))
missing_less [] (e ∷ es) p o lt h = absurd (none-some o h)
missing_less (x ∷ os) (e ∷ es) zero o lt h =
    let there = slice_get_within x.items (length e) o h in
    let more = length-append e (Written ∷ []) in
    omega (arith, there, more)
missing_less (x ∷ os) (e ∷ es) (suc p) o lt h = let less = missing_less os es p o (omega (arith, lt)) h in omega (arith, less)

module _ (q : Question) where
  -- what `next_of` takes to give an operation
  next_parts : (t : Bool) (n : Option Op) (o : Op) → (if t then n else None) ≡ Some o → (t ≡ true) × (n ≡ Some o)
  next_parts true n o h = (refl, h)
  next_parts false n o h = absurd (none-some o h)

  some_next : (n : Option Op) → is_some n ≡ true → (o : Op) × (n ≡ Some o)
  some_next None h = absurd (true≢false (sym h))
  some_next (Some o) h = (o, refl)

  -- what it takes for process p to have a next operation
  free_parts : (ended : ℕ → ℕ) (p : ℕ) → is_some (next_of q ended p) ≡ true
      → (o : Op) × ((list_all (allows ended p) q.after.items ≡ true) × (slice_get (operations_of q p) (ended p) ≡ Some o))
  free_parts ended p h =
      let n = some_next (next_of q ended p) h in
      (n.0, next_parts (list_all (allows ended p) q.after.items) (slice_get (operations_of q p) (ended p)) n.0 n.1)

  -- the operations that have ended have ranks below a limit, in the order in which they ended
  pub record IsRankedTo (ended : ℕ → ℕ) : Type 0 where
    pub rank : ℕ → ℕ → ℕ
    pub limit : ℕ
    pub below : (p i : ℕ) → i < ended p → rank p i < limit
    pub in_order : (p i : ℕ) → i + 1 < ended p → rank p i < rank p (i + 1)
    pub follows : (k : ℕ) (a : After) → slice_get q.after.items k ≡ Some a → a.later.index < ended a.later.process
        → (a.earlier.index < ended a.earlier.process) × (rank a.earlier.process a.earlier.index < rank a.later.process a.later.index)

  -- at first, no operation has ended
  pub ranked_none : (ended : ℕ → ℕ) → ((p : ℕ) → ended p ≡ 0) → IsRankedTo ended
  ranked_none ended none = record {
    rank = λ p i. 0;
    limit = 0;
    below = λ p i lt. let n = none p in absurd (omega (arith, lt, n));
    in_order = λ p i lt. let n = none p in absurd (omega (arith, lt, n));
    follows = λ k a get lt. let n = none a.later.process in absurd (omega (arith, lt, n));
  }

  -- if `a` lets process p invoke its next operation, which is the later one of `a`, the earlier one
  -- has ended
  earlier_ended : (ended : ℕ → ℕ) (p : ℕ) (a : After) → allows ended p a ≡ true → a.later.process ≡ p → a.later.index ≡ ended p
      → a.earlier.index < ended a.earlier.process
  earlier_ended ended p a h e f =
      let path : allows ended p a ≡ nat_lt a.earlier.index (ended a.earlier.process) =
      λ j. not ((eq-eqb a.later.process p e j) && (eq-eqb a.later.index (ended p) f j)) || nat_lt a.earlier.index (ended a.earlier.process) in
      ltb-true a.earlier.index (ended a.earlier.process) (sym path ∙ h)

  module _ (ended ended' : ℕ → ℕ) (p : ℕ) (was : IsRankedTo ended) (more : ended' p ≡ ended p + 1)
      (kept : (r : ℕ) → (r ≡ p → ⊥) → ended' r ≡ ended r) (free : list_all (allows ended p) q.after.items ≡ true) where
    -- an operation that has ended now had ended before, or is the one that ended last
    old_or_last : (r i : ℕ) → i < ended' r → (i < ended r) ⊎ ((r ≡ p) × (i ≡ ended p))
    old_or_last r i lt = elim (cases_eq r p) [
      | inl e ↦ at_p e (cases_lt i (ended r))
      | inr other ↦ let same = kept r other in inl (omega (arith, lt, same))
    ]
      where
        at_p : r ≡ p → (i < ended r) ⊎ (ended r ≤ i) → (i < ended r) ⊎ ((r ≡ p) × (i ≡ ended p))
        at_p e (inl low) = inl low
        at_p e (inr high) =
            let one : ended' r ≡ ended p + 1 = ap ended' e ∙ more in
            let same : ended r ≡ ended p = ap ended e in
            inr (e, omega (arith, lt, one, same, high))

    -- an operation that had ended has ended
    still_ended : (r i : ℕ) → i < ended r → i < ended' r
    still_ended r i lt = elim (cases_eq r p) [
      | inl e ↦ let one : ended' r ≡ ended p + 1 = ap ended' e ∙ more in
          let same : ended r ≡ ended p = ap ended e in
          omega (arith, lt, one, same)
      | inr other ↦ let same = kept r other in omega (arith, lt, same)
    ]

    -- the operation that ended last gets a rank above all others
    abbrev new_rank : ℕ → ℕ → ℕ
    new_rank = raised was.rank was.limit p (ended p)

    rank_of_old : (r i : ℕ) → i < ended r → new_rank r i ≡ was.rank r i
    rank_of_old r i lt = raised_elsewhere was.rank was.limit p (ended p) r i (λ e f. let same : ended r ≡ ended p = ap ended e in omega (arith, lt, f, same))

    rank_of_last : (r i : ℕ) → r ≡ p → i ≡ ended p → new_rank r i ≡ was.limit
    rank_of_last r i e f = raised_here was.rank was.limit p (ended p) r i e f

    -- the next operation of p ends, and all others stay
    pub ranked_more : IsRankedTo ended'
    ranked_more = record {
      rank = new_rank;
      limit = was.limit + 1;
      below = λ r i lt. elim (old_or_last r i lt) [
        | inl low ↦ let e = rank_of_old r i low in let was_below = was.below r i low in omega (arith, e, was_below)
        | inr last ↦ let e = rank_of_last r i last.0 last.1 in omega (arith, e)
      ];
      in_order = λ r i lt. elim (old_or_last r (i + 1) lt) [
        | inl low ↦ let one = rank_of_old r i (omega (arith, low)) in
            let two = rank_of_old r (i + 1) low in
            let ordered = was.in_order r i low in
            omega (arith, one, two, ordered)
        | inr last ↦ let same : ended r ≡ ended p = ap ended last.0 in
            let at = last.1 in
            let low : i < ended r = omega (arith, same, at) in
            let one = rank_of_old r i low in
            let two = rank_of_last r (i + 1) last.0 last.1 in
            let was_below = was.below r i low in
            omega (arith, one, two, was_below)
      ];
      follows = λ k a get lt. elim (old_or_last a.later.process a.later.index lt) [
        | inl low ↦ let f = was.follows k a get low in
            let one = rank_of_old a.earlier.process a.earlier.index f.0 in
            let two = rank_of_old a.later.process a.later.index low in
            let ordered = f.1 in
            (still_ended a.earlier.process a.earlier.index f.0, omega (arith, one, two, ordered))
        | inr last ↦ let low = earlier_ended ended p a (passes_at (allows ended p) q.after.items k a free get) last.0 last.1 in
            let one = rank_of_old a.earlier.process a.earlier.index low in
            let two = rank_of_last a.later.process a.later.index last.0 last.1 in
            let was_below = was.below a.earlier.process a.earlier.index low in
            (still_ended a.earlier.process a.earlier.index low, omega (arith, one, two, was_below))
      ];
    }

  module _ (named : list_all (are_asked q) q.after.items ≡ true) where
    -- both operations that item k of `after` names exist
    both_exist : (k : ℕ) (a : After) → slice_get q.after.items k ≡ Some a
        → (a.later.index < length (operations_of q a.later.process)) × (a.earlier.index < length (operations_of q a.earlier.process))
    both_exist k a get =
        let n = and_parts (nat_lt a.later.index (length (operations_of q a.later.process))) (nat_lt a.earlier.index (length (operations_of q a.earlier.process)))
        (passes_at (are_asked q) q.after.items k a named get) in
        (ltb-true _ _ n.0, ltb-true _ _ n.1)

    -- if all operations have ended, their ranks show that none has to follow itself
    acyclic_if_all_ended : (ended : ℕ → ℕ) → IsRankedTo ended → ((p : ℕ) → ended p ≡ length (operations_of q p)) → IsAcyclic q
    acyclic_if_all_ended ended was all = record {
      rank = was.rank;
      in_order = λ p i lt. let n = all p in was.in_order p i (omega (arith, lt, n));
      follows = λ k a get. let n = all a.later.process in let there = (both_exist k a get).0 in (was.follows k a get (omega (arith, n, there))).1;
    }

    -- a process whose next operation can't end has to wait for another one
    record IsBlocked (ended : ℕ → ℕ) (p : ℕ) : Type 0 where
      index : ℕ
      after : After
      stored : slice_get q.after.items index ≡ Some after
      who : after.later.process ≡ p
      which : after.later.index ≡ ended p
      waits : ended after.earlier.process ≤ after.earlier.index

    -- an operation that is left and can't end waits for one that hasn't ended
    blocked : (ended : ℕ → ℕ) (p : ℕ) → next_of q ended p ≡ None → ended p < length (operations_of q p) → IsBlocked ended p
    blocked ended p none lt = by (list_all (allows ended p) q.after.items) refl none
      where
        parts : (s t u : Bool) → (not (s && t) || u) ≡ false → ((s ≡ true) × (t ≡ true)) × (u ≡ false)
        parts true true u h = ((refl, refl), h)
        parts true false u h = absurd (true≢false h)
        parts false t u h = absurd (true≢false h)

        waiting : HasFailing (allows ended p) q.after.items → IsBlocked ended p
        waiting f =
            let a = f.item in
            let n = parts (a.later.process == p) (a.later.index == ended p) (nat_lt a.earlier.index (ended a.earlier.process)) f.fails in
            record {
              index = f.index;
              after = a;
              stored = f.stored;
              who = (Decides-eqb a.later.process p).0 n.0.0;
              which = (Decides-eqb a.later.index (ended p)).0 n.0.1;
              waits = ltb-false a.earlier.index (ended a.earlier.process) n.1;
            }

        by : (b : Bool) → list_all (allows ended p) q.after.items ≡ b → (if b then slice_get (operations_of q p) (ended p) else None) ≡ None → IsBlocked ended p
        by true e h = let beyond = none_past_end (operations_of q p) (ended p) h in absurd (omega (arith, lt, beyond))
        by false e h = waiting (some_fails (allows ended p) q.after.items e)

    module _ (ended : ℕ → ℕ) (stuck : (p : ℕ) → ended p < length (operations_of q p) → next_of q ended p ≡ None) (acyclic : IsAcyclic q) where
      -- a process's later operations have no smaller ranks
      ranks_rise : (j : ℕ) (p i : ℕ) → i ≤ j → j < length (operations_of q p) → acyclic.rank p i ≤ acyclic.rank p j
      ranks_rise zero p i le lt = let e : i ≡ 0 = omega (arith, le) in subst (λ n. acyclic.rank p i ≤ acyclic.rank p n) e (omega arith)
      ranks_rise (suc j) p i le lt = elim (cases_lt i (suc j)) [
        | inl low ↦ let one = ranks_rise j p i (omega (arith, low)) (omega (arith, lt)) in
            let e : j + 1 ≡ suc j = omega arith in
            let two : acyclic.rank p j < acyclic.rank p (suc j) = subst (λ n. acyclic.rank p j < acyclic.rank p n) e (acyclic.in_order p j (omega (arith, lt))) in
            omega (arith, one, two)
        | inr high ↦ let e : i ≡ suc j = omega (arith, le, high) in subst (λ n. acyclic.rank p i ≤ acyclic.rank p n) e (omega arith)
      ]

      -- no process waits: it would wait for one whose next operation has a smaller rank, and so on
      -- without end
      descend : (n p : ℕ) → ended p < length (operations_of q p) → acyclic.rank p (ended p) < n → ⊥
      descend zero p lt h = omega (arith, h)
      descend (suc n) p lt h =
          let w = blocked ended p (stuck p lt) lt in
          let a = w.after in
          let there = (both_exist w.index a w.stored).1 in
          let waits = w.waits in
          let less = acyclic.follows w.index a w.stored in
          let here : acyclic.rank a.later.process a.later.index ≡ acyclic.rank p (ended p) = λ i. acyclic.rank (w.who i) (w.which i) in
          let least = ranks_rise a.earlier.index a.earlier.process (ended a.earlier.process) waits there in
          descend n a.earlier.process (omega (arith, waits, there)) (omega (arith, less, here, least, h))

      -- each process has ended all its operations
      pub none_left : (p : ℕ) → ended p < length (operations_of q p) → ⊥
      none_left p lt = descend (acyclic.rank p (ended p) + 1) p lt (omega arith)

    -- if no process is free, the question is acyclic exactly if each process has ended all
    pub decides_acyclic : (ended : ℕ → ℕ) (processes : ℕ) (verdict : Bool) → length q.operations.items ≤ processes
        → IsRankedTo ended
        → ((p : ℕ) → ended p ≤ length (operations_of q p))
        → ((p : ℕ) → p < processes → next_of q ended p ≡ None)
        → Decides verdict ((p : ℕ) → p < processes → ended p ≡ length (operations_of q p))
        → Decides verdict (IsAcyclic q)
    decides_acyclic ended processes verdict lists was few none d = (
      λ h. acyclic_if_all_ended ended was (everywhere (d.0 h)),
      λ acyclic. d.1 (λ p lt. elim (cases_lt (ended p) (length (operations_of q p))) [
        | inl low ↦ absurd (none_left ended (λ r less. none r (there r less)) acyclic p low)
        | inr high ↦ let most = few p in omega (arith, most, high)
      ]),
    )
      where
        nothing : (p : ℕ) → processes ≤ p → length (operations_of q p) ≡ 0
        nothing p le = ap (λ l. length (operations_in l)) (slice_get_past q.operations.items p (omega (arith, lists, le)))

        there : (p : ℕ) → ended p < length (operations_of q p) → p < processes
        there p lt = elim (cases_lt p processes) [ inl low ↦ low | inr high ↦ let n = nothing p high in absurd (omega (arith, n, lt)) ]

        everywhere : ((p : ℕ) → p < processes → ended p ≡ length (operations_of q p)) → (p : ℕ) → ended p ≡ length (operations_of q p)
        everywhere all p = elim (cases_lt p processes) [
          | inl low ↦ all p low
          | inr high ↦ let n = nothing p high in let most = few p in omega (arith, n, most)
        ]

-- at first no operation has ended
pub nothing_ended : (n p : ℕ) → ended_counts (replicate n []) p ≡ 0
nothing_ended zero p = refl
nothing_ended (suc n) zero = refl
nothing_ended (suc n) (suc p) = nothing_ended n p

-- the counts of operations once one more has ended
module _ (answers : List (List Outcome)) (p : ℕ) (there : p < length answers) where
  -- the answers once process p's next operation has ended
  abbrev with_one : List (List Outcome)
  with_one = set answers p (get_or answers p [] ++ Written ∷ [])

  pub one_more_ended : ended_counts with_one p ≡ ended_counts answers p + 1
  one_more_ended = ap length (get_or-set_same answers p (get_or answers p [] ++ Written ∷ []) [] there) ∙ length-append (get_or answers p []) (Written ∷ [])

  pub others_kept : (r : ℕ) → (r ≡ p → ⊥) → ended_counts with_one r ≡ ended_counts answers r
  others_kept r other = ap length (get_or-set_other answers p r (get_or answers p [] ++ Written ∷ []) [] other)

  module _ (q : Question) (free : is_some (next_of q (ended_counts answers) p) ≡ true) where
    pub ranked_with_one : IsRankedTo q (ended_counts answers) → IsRankedTo q (ended_counts with_one)
    ranked_with_one was = ranked_more q (ended_counts answers) (ended_counts with_one) p was one_more_ended others_kept (free_parts q (ended_counts answers) p free).1.0

    pub few_with_one : ((r : ℕ) → ended_counts answers r ≤ length (operations_of q r)) → (r : ℕ) → ended_counts with_one r ≤ length (operations_of q r)
    few_with_one few r = elim (cases_eq r p) [
      | inl e ↦ subst (λ n. ended_counts with_one n ≤ length (operations_of q n)) (sym e)
          (let parts = free_parts q (ended_counts answers) p free in
          let within = slice_get_within (operations_of q p) (ended_counts answers p) parts.0 parts.1.1 in
          omega (arith, one_more_ended, within))
      | inr other ↦ let same = others_kept r other in let was = few r in omega (arith, same, was)
    ]

    pub fewer_missing : missing q.operations.items with_one < missing q.operations.items answers
    fewer_missing =
        let parts = free_parts q (ended_counts answers) p free in
        missing_less q.operations.items answers p parts.0 there parts.1.1
