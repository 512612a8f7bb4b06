-- If each step changes codes as `StepChanges` says, the operations can be given ranks: their codes.
use Rattle.std.proofs.Common.{◌≡◌, ℕ, ◌+◌, ◌%◌, ◌<◌, ◌≤◌, max, Bool, true, false, List, [], ◌∷◌, ◌++◌, Option, Some, None, inl, inr, refl, sym, ap, subst, ◌∙◌, arith, append_assoc}
use Rattle.std.specs.Prelude.{◌⊎◌, ⊤, if◌then◌else◌, ◌==◌}
use Rattle.std.proofs.lemmas.Bool.{cases_eq, cases_lt}
use Rattle.std.proofs.lemmas.Option.{same_Some}
use Rattle.frames.specs.declared.types.Op.{Op}
use Rattle.frames.specs.declared.types.Op.TheVariants.{Read, Write}
use Rattle.frames.specs.declared.types.Event.{Event}
use Rattle.frames.specs.declared.types.Event.TheVariants.{Invoke, Got, Wrote, Refused, Void, Stop, Chosen}
use Rattle.frames.specs.declared.types.StepEvents.{StepEvents}
use Rattle.frames.specs.Recorded.{at_index, indexed}
use Rattle.frames.proofs.Seen.{Allowed}
use Rattle.frames.proofs.Pointwise.{put, put_same, put_other, put_all}
use Rattle.matrix.proofs.CodedHistory.{Coded, IsKnownCode, returned, invoked, after_refusal, took_code, own_code_taken, own_other_codes, others_codes, EventChanges, TakesNewCode, MayTakeCode, StepChanges, uncoded}
use Rattle.frames.specs.correctness.Ranks.{Ranking, at_first, HasRank, after_rank, Ranked}

-- the code of each process's writes, by number, if they have one
abbrev pub CodeTable : Type 0
CodeTable = ℕ → ℕ → Option ℕ

-- no write that is yet to be invoked has a code, and no two writes have the same one
pub record AreConsistent (c : Coded) : Type 0 where
  pub later : (q k : ℕ) → c.count q < k → c.code q k ≡ None
  pub low : c.initial ≤ c.top
  pub apart : (q k r l x : ℕ) → c.code q k ≡ Some x → c.code r l ≡ Some x → (q ≡ r) × (k ≡ l)

-- these are the codes that writes have in the end
pub record AreFinalCodes (values : ℕ) (c : Coded) (final_codes : CodeTable) : Type 0 where
  pub kept : (q k x : ℕ) → c.code q k ≡ Some x → final_codes q k ≡ Some x
  pub past : (q k : ℕ) → k < c.count q → final_codes q k ≡ c.code q k
  pub ended : (q : ℕ) → c.writing q ≡ false → final_codes q (c.count q) ≡ c.code q (c.count q)
  pub apart : (q k r l x : ℕ) → final_codes q k ≡ Some x → final_codes r l ≡ Some x → (q ≡ r) × (k ≡ l)
  pub above : (q x : ℕ) → c.writing q ≡ true → c.code q (c.count q) ≡ None → final_codes q (c.count q) ≡ Some x → (c.floor q < x) × (x % values ≡ c.value q)

-- x is the initial value's code, or in the end the code of a write invoked so far
abbrev pub IsIssued : Coded → CodeTable → ℕ → Type 0
IsIssued c final_codes x = (x ≡ c.initial) ⊎ ((q : ℕ) × ((k : ℕ) × ((k ≤ c.count q) × (final_codes q k ≡ Some x))))

-- a ranking agrees with what is known of the history: ranks are codes
pub record RanksAgree (values : ℕ) (c : Coded) (final_codes : CodeTable) (r : Ranking) : Type 0 where
  pub top : r.top ≡ c.top
  pub floor : (p : ℕ) → r.floor p ≡ c.floor p
  pub mine : (p : ℕ) → c.writing p ≡ true → r.mine p ≡ final_codes p (c.count p)
  pub rest : (p : ℕ) → c.writing p ≡ false → r.mine p ≡ None
  pub issued : (x : ℕ) → IsIssued c final_codes x → r.values x ≡ Some (x % values)
  pub unissued : (x : ℕ) → (IsIssued c final_codes x → ⊥) → r.values x ≡ None

-- known codes are issued
known_is_issued : (values : ℕ) (c : Coded) (final_codes : CodeTable) (x : ℕ) → AreConsistent c → AreFinalCodes values c final_codes → IsKnownCode c x → IsIssued c final_codes x
known_is_issued values c final_codes x s h k = elim k [
  | inl e ↦ inl e
  | inr w ↦ inr (
    w.0,
    (
      w.1.0,
      (
        elim (cases_lt (c.count w.0) w.1.0) [
          | inl lt ↦ absurd (let u : None ≡ Some x = sym (s.later w.0 w.1.0 lt) ∙ w.1.1 in cc)
          | inr le ↦ le
        ],
        h.kept w.0 w.1.0 x w.1.1,
      ),
    ),
  )
]

-- when a write takes a code, c becomes d: d is consistent too, final codes of d are final codes of
-- c, and a ranking that agrees with c agrees with d
module _ (values : ℕ) (c d : Coded) (t : TakesNewCode values c d) where
  took_consistent : AreConsistent c → AreConsistent d
  took_consistent s = subst AreConsistent (sym t.after) (record {
    later = λ q k lt. elim (cases_eq q t.process) [
      | inr ne ↦ others_codes t.process t.code_taken q k c ne ∙ s.later q k lt
      | inl e ↦ ap (λ i. (took_code t.process t.code_taken c).code i k) e ∙ own_other_codes t.process t.code_taken k c (λ u. (let w = ap c.count e in omega (arith, u, lt, w))) ∙ ap (λ i. c.code i k) (sym e) ∙ s.later q k lt
    ];
    low = s.low;
    apart = λ q k r l x a b. both q k r l x (where_from q k x a) (where_from r l x b);
  })
    where
      where_from : (q k x : ℕ) → (took_code t.process t.code_taken c).code q k ≡ Some x → (c.code q k ≡ Some x) ⊎ ((q ≡ t.process) × ((k ≡ c.count t.process) × (t.code_taken ≡ x)))
      where_from q k x a = elim (cases_eq q t.process) [
        | inr ne ↦ inl (sym (others_codes t.process t.code_taken q k c ne) ∙ a)
        | inl e ↦ elim (cases_eq k (c.count t.process)) [
          | inr ne ↦ inl (ap (λ i. c.code i k) e ∙ sym (own_other_codes t.process t.code_taken k c ne) ∙ ap (λ i. (took_code t.process t.code_taken c).code i k) (sym e) ∙ a)
          | inl i ↦ inr (e, (i, same_Some t.code_taken x (sym (own_code_taken t.process t.code_taken c) ∙ sym (ap ((took_code t.process t.code_taken c).code t.process) i) ∙ ap (λ j. (took_code t.process t.code_taken c).code j k) (sym e) ∙ a)))
        ]
      ]

      both : (q k r l x : ℕ) → (c.code q k ≡ Some x) ⊎ ((q ≡ t.process) × ((k ≡ c.count t.process) × (t.code_taken ≡ x))) → (c.code r l ≡ Some x) ⊎ ((r ≡ t.process) × ((l ≡ c.count t.process) × (t.code_taken ≡ x))) → (q ≡ r) × (k ≡ l)
      both q k r l x (inl a) (inl b) = s.apart q k r l x a b
      both q k r l x (inl a) (inr b) = absurd (t.new q k (a ∙ ap Some (sym b.1.1)))
      both q k r l x (inr a) (inl b) = absurd (t.new r l (b ∙ ap Some (sym a.1.1)))
      both q k r l x (inr a) (inr b) = (a.0 ∙ sym b.0, a.1.0 ∙ sym b.1.0)

  took_final : (final_codes : CodeTable) → AreFinalCodes values d final_codes → AreFinalCodes values c final_codes
  took_final final_codes g =
      let h : AreFinalCodes values (took_code t.process t.code_taken c) final_codes = subst (λ z. AreFinalCodes values z final_codes) t.after g in
      let there : final_codes t.process (c.count t.process) ≡ Some t.code_taken = h.kept t.process (c.count t.process) t.code_taken (own_code_taken t.process t.code_taken c) in
      record {
        kept = λ q k x e. elim (cases_eq q t.process) [
          | inr ne ↦ h.kept q k x (others_codes t.process t.code_taken q k c ne ∙ e)
          | inl i ↦ elim (cases_eq k (c.count t.process)) [
            | inr ne ↦ h.kept q k x (ap (λ j. (took_code t.process t.code_taken c).code j k) i ∙ own_other_codes t.process t.code_taken k c ne ∙ ap (λ j. c.code j k) (sym i) ∙ e)
            | inl u ↦ absurd (let w : None ≡ Some x = sym t.had_no_code ∙ sym (ap (c.code t.process) u) ∙ ap (λ j. c.code j k) (sym i) ∙ e in cc)
          ]
        ];
        past = λ q k lt. h.past q k lt ∙ elim (cases_eq q t.process) [
          | inr ne ↦ others_codes t.process t.code_taken q k c ne
          | inl i ↦ ap (λ j. (took_code t.process t.code_taken c).code j k) i ∙ own_other_codes t.process t.code_taken k c (λ u. (let w = ap c.count i in omega (arith, u, lt, w))) ∙ ap (λ j. c.code j k) (sym i)
        ];
        ended = λ q e. h.ended q e ∙ elim (cases_eq q t.process) [
          | inr ne ↦ others_codes t.process t.code_taken q (c.count q) c ne
          | inl i ↦ absurd (let w : true ≡ false = sym t.writes ∙ ap c.writing (sym i) ∙ e in cc)
        ];
        apart = h.apart;
        above = λ q x w e u. elim (cases_eq q t.process) [
          | inr ne ↦ h.above q x w (others_codes t.process t.code_taken q (c.count q) c ne ∙ e) u
          | inl i ↦
              (let same : t.code_taken ≡ x = same_Some t.code_taken x (sym there ∙ ap (λ j. final_codes j (c.count j)) (sym i) ∙ u) in
              let a : c.floor t.process < t.code_taken = t.above in
              let b : c.floor q ≡ c.floor t.process = ap c.floor i in
              (omega (arith, same, a, b), ap (λ j. j % values) (sym same) ∙ t.value ∙ ap c.value (sym i)))
        ];
      }

  took_agrees : (final_codes : CodeTable) (r : Ranking) → RanksAgree values c final_codes r → RanksAgree values d final_codes r
  took_agrees final_codes r a = subst (λ z. RanksAgree values z final_codes r) (sym t.after) (record { top = a.top; floor = a.floor; mine = a.mine; rest = a.rest; issued = a.issued; unissued = a.unissued })

-- the same if a write takes a code, or nothing changes
takes_consistent : (values : ℕ) (c d : Coded) → MayTakeCode values c d → AreConsistent c → AreConsistent d
takes_consistent values c d (inl e) s = subst AreConsistent (sym e) s
takes_consistent values c d (inr t) s = took_consistent values c d t s

takes_final : (values : ℕ) (c d : Coded) (final_codes : CodeTable) → MayTakeCode values c d → AreFinalCodes values d final_codes → AreFinalCodes values c final_codes
takes_final values c d final_codes (inl e) h = subst (λ z. AreFinalCodes values z final_codes) e h
takes_final values c d final_codes (inr t) h = took_final values c d t final_codes h

takes_agrees : (values : ℕ) (c d : Coded) (final_codes : CodeTable) (r : Ranking) → MayTakeCode values c d → RanksAgree values c final_codes r → RanksAgree values d final_codes r
takes_agrees values c d final_codes r (inl e) a = subst (λ z. RanksAgree values z final_codes r) (sym e) a
takes_agrees values c d final_codes r (inr t) a = took_agrees values c d t final_codes r a

-- from c to z, p's write ends if p was in one, and the other processes' writes go on
record EndsWrite (p : ℕ) (c z : Coded) : Type 0 where
  code : (q k : ℕ) → z.code q k ≡ c.code q k
  count : (q : ℕ) → z.count q ≡ c.count q
  over : z.writing p ≡ false
  writing : (q : ℕ) → (q ≡ p → ⊥) → z.writing q ≡ c.writing q
  floor : (q : ℕ) → (q ≡ p → ⊥) → z.floor q ≡ c.floor q
  value : (q : ℕ) → (q ≡ p → ⊥) → z.value q ≡ c.value q

-- the codes that writes have in the end, seen after p's write ends, are so before it
final_before_write_ends : (values p : ℕ) (c z : Coded) (final_codes : CodeTable) → EndsWrite p c z → AreFinalCodes values z final_codes → AreFinalCodes values c final_codes
final_before_write_ends values p c z final_codes k h = record {
  kept = λ q i x e. h.kept q i x (k.code q i ∙ e);
  past = λ q i lt. h.past q i (let w = k.count q in omega (arith, w, lt)) ∙ k.code q i;
  ended = λ q e. now q (elim (cases_eq q p) as (λ _. z.writing q ≡ false) [ inl u ↦ ap z.writing u ∙ k.over | inr ne ↦ k.writing q ne ∙ e ]);
  apart = h.apart;
  above = λ q x w e u. elim (cases_eq q p) [
    | inl i ↦ absurd (let f : None ≡ Some x = sym e ∙ sym (now q (ap z.writing i ∙ k.over)) ∙ u in cc)
    | inr ne ↦
        (let g = h.above q x (k.writing q ne ∙ w) (k.code q (z.count q) ∙ ap (c.code q) (k.count q) ∙ e) (ap (final_codes q) (k.count q) ∙ u) in
        (let a : z.floor q < x = g.0 in let b = k.floor q ne in omega (arith, a, b), g.1 ∙ k.value q ne))
  ];
}
  where
    now : (q : ℕ) → z.writing q ≡ false → final_codes q (c.count q) ≡ c.code q (c.count q)
    now q e = ap (final_codes q) (sym (k.count q)) ∙ h.ended q e ∙ k.code q (z.count q) ∙ ap (c.code q) (k.count q)

-- p's write ends by a return, by a refusal, and if p invokes a read
returned_ends_write : (p n : ℕ) (c : Coded) → EndsWrite p c (returned p n c)
returned_ends_write p n c = record { code = λ q k. refl; count = λ q. refl; over = put_same p false c.writing; writing = λ q ne. put_other p q false c.writing ne; floor = λ q ne. refl; value = λ q ne. refl }

refusal_ends_write : (p : ℕ) (c : Coded) → EndsWrite p c (after_refusal p c)
refusal_ends_write p c = record { code = λ q k. refl; count = λ q. refl; over = put_same p false c.writing; writing = λ q ne. put_other p q false c.writing ne; floor = λ q ne. refl; value = λ q ne. refl }

read_ends_write : (p : ℕ) (c : Coded) → EndsWrite p c (invoked p Read c)
read_ends_write p c = record {
  code = λ q k. refl;
  count = λ q. refl;
  over = put_same p false c.writing;
  writing = λ q ne. put_other p q false c.writing ne;
  floor = λ q ne. put_other p q c.top c.floor ne;
  value = λ q ne. refl;
}

-- a process that is in a write once p's write is over is another one, and was in a write before
still_writes : (p q : ℕ) (w : ℕ → Bool) → put p false w q ≡ true → (q ≡ p → ⊥) × (w q ≡ true)
still_writes p q w e = elim (cases_eq q p) [
  | inl i ↦ absurd (let f : false ≡ true = sym (put_same p false w) ∙ ap (put p false w) (sym i) ∙ e in cc)
  | inr ne ↦ (ne, sym (put_other p q false w ne) ∙ e)
]

-- if processes in no write have no rank, this still holds once p's write is over and p's rank is
-- removed
no_rank_put : (p : ℕ) (m : ℕ → Option ℕ) (w : ℕ → Bool) → ((q : ℕ) → w q ≡ false → m q ≡ None) → (q : ℕ) → put p false w q ≡ false → put p None m q ≡ None
no_rank_put p m w h q e = elim (cases_eq q p) as (λ _. put p None m q ≡ None) [
  | inl i ↦ ap (put p None m) i ∙ put_same p None m
  | inr ne ↦ put_other p q None m ne ∙ h q (sym (put_other p q false w ne) ∙ e)
]

-- the same once p is in a write, with its rank or none
no_rank_more : (p : ℕ) (o : Option ℕ) (m : ℕ → Option ℕ) (w : ℕ → Bool) → ((q : ℕ) → w q ≡ false → m q ≡ None) → (q : ℕ) → put p true w q ≡ false → put p o m q ≡ None
no_rank_more p o m w h q e = elim (cases_eq q p) as (λ _. put p o m q ≡ None) [
  | inl i ↦ absurd (let f : true ≡ false = sym (put_same p true w) ∙ ap (put p true w) (sym i) ∙ e in cc)
  | inr ne ↦ put_other p q o m ne ∙ h q (sym (put_other p q true w ne) ∙ e)
]

-- the same once p's write is over, if it had no rank
no_rank_same : (p : ℕ) (m : ℕ → Option ℕ) (w : ℕ → Bool) → m p ≡ None → ((q : ℕ) → w q ≡ false → m q ≡ None) → (q : ℕ) → put p false w q ≡ false → m q ≡ None
no_rank_same p m w none h q e = elim (cases_eq q p) [
  | inl i ↦ ap m i ∙ none
  | inr ne ↦ h q (sym (put_other p q false w ne) ∙ e)
]

-- two functions that are the same stay so if p's number changes in both
same_put : (p : ℕ) (x y : ℕ) (f g : ℕ → ℕ) → x ≡ y → ((q : ℕ) → f q ≡ g q) → (q : ℕ) → put p x f q ≡ put p y g q
same_put p x y f g e h q = elim (q == p) as (λ b. (if b then x else f q) ≡ (if b then y else g q)) [ true ↦ e | false ↦ h q ]

-- event e leads from c to z: z is consistent; final codes of z are final codes of c; and with some
-- rank for e, a ranking that agrees with c becomes one that agrees with z
record EventLeads (values : ℕ) (e : Event) (c z : Coded) : Type 0 where
  consistent : AreConsistent z
  final : (final_codes : CodeTable) → AreFinalCodes values z final_codes → AreFinalCodes values c final_codes
  ranks : (final_codes : CodeTable) → AreFinalCodes values z final_codes → (r : Ranking) → RanksAgree values c final_codes r → (n : Option ℕ) × (HasRank r e n × RanksAgree values z final_codes (after_rank r e n))

-- what is known stays consistent when an operation returns
returned_consistent : (p n : ℕ) (c : Coded) → AreConsistent c → AreConsistent (returned p n c)
returned_consistent p n c s = record { later = s.later; low = (let l = s.low in omega (arith, l)); apart = s.apart }

-- a ranking that agrees still does once a read returns with rank n
got_agrees : (values p n : ℕ) (c : Coded) (final_codes : CodeTable) (r : Ranking) → c.writing p ≡ false → RanksAgree values c final_codes r → RanksAgree values (returned p n c) final_codes (record r { top = max r.top n })
got_agrees values p n c final_codes r quiet a = record {
  top = ap (λ t. max t n) a.top;
  floor = a.floor;
  mine = λ q w. a.mine q (still_writes p q c.writing w).1;
  rest = no_rank_same p r.mine c.writing (a.rest p quiet) a.rest;
  issued = a.issued;
  unissued = a.unissued;
}

-- a ranking that agrees still does once a write returns with rank n
wrote_agrees : (values p n : ℕ) (c : Coded) (final_codes : CodeTable) (r : Ranking) → RanksAgree values c final_codes r → RanksAgree values (returned p n c) final_codes (record r { top = max r.top n; mine = put p None r.mine })
wrote_agrees values p n c final_codes r a = record {
  top = ap (λ t. max t n) a.top;
  floor = a.floor;
  mine = λ q w. (let u = still_writes p q c.writing w in put_other p q None r.mine u.0 ∙ a.mine q u.1);
  rest = no_rank_put p r.mine c.writing a.rest;
  issued = a.issued;
  unissued = a.unissued;
}

-- each kind of event leads from what is known before it to what is known after it
got_leads : (values p x n : ℕ) (c : Coded) → AreConsistent c → IsKnownCode c n → x ≡ n % values → c.floor p ≤ n → c.writing p ≡ false → EventLeads values (Got p x) c (returned p n c)
got_leads values p x n c s k e le quiet = record {
  consistent = returned_consistent p n c s;
  final = λ final_codes h. final_before_write_ends values p c (returned p n c) final_codes (returned_ends_write p n c) h;
  ranks = λ final_codes h r a.
      (let g = final_before_write_ends values p c (returned p n c) final_codes (returned_ends_write p n c) h in
      (Some n, ((let u = a.floor p in omega (arith, u, le), a.issued n (known_is_issued values c final_codes n s g k) ∙ ap Some (sym e)), got_agrees values p n c final_codes r quiet a)));
}

wrote_leads : (values p n : ℕ) (c : Coded) → AreConsistent c → c.code p (c.count p) ≡ Some n → c.writing p ≡ true → EventLeads values (Wrote p) c (returned p n c)
wrote_leads values p n c s e w = record {
  consistent = returned_consistent p n c s;
  final = λ final_codes h. final_before_write_ends values p c (returned p n c) final_codes (returned_ends_write p n c) h;
  ranks = λ final_codes h r a.
      (let g = final_before_write_ends values p c (returned p n c) final_codes (returned_ends_write p n c) h in
      (Some n, (a.mine p w ∙ g.kept p (c.count p) n e, wrote_agrees values p n c final_codes r a)));
}

read_leads : (values p : ℕ) (c : Coded) → AreConsistent c → EventLeads values (Invoke p Read) c (invoked p Read c)
read_leads values p c s = record {
  consistent = record { later = s.later; low = s.low; apart = s.apart };
  final = λ final_codes h. final_before_write_ends values p c (invoked p Read c) final_codes (read_ends_write p c) h;
  ranks = λ final_codes h r a. (
    None,
    (
      tt,
      record {
        top = a.top;
        floor = same_put p r.top c.top r.floor c.floor a.top a.floor;
        mine = λ q w. (let u = still_writes p q c.writing w in put_other p q None r.mine u.0 ∙ a.mine q u.1);
        rest = no_rank_put p r.mine c.writing a.rest;
        issued = a.issued;
        unissued = a.unissued;
      },
    ),
  );
}

-- p invokes a write of v
module _ (values p v : ℕ) (c : Coded) (s : AreConsistent c) where
  -- what is known then
  abbrev z : Coded
  z = invoked p (Write v) c

  count_raised : z.count p ≡ c.count p + 1
  count_raised = put_same p (c.count p + 1) c.count

  count_no_lower : (q : ℕ) → c.count q ≤ z.count q
  count_no_lower = put_all (λ q y. c.count q ≤ y) p (c.count p + 1) c.count (omega arith) (λ q ne. omega arith)

  write_consistent : AreConsistent z
  write_consistent = record { later = λ q k lt. s.later q k (let w = count_no_lower q in omega (arith, w, lt)); low = s.low; apart = s.apart }

  write_final : (final_codes : CodeTable) → AreFinalCodes values z final_codes → AreFinalCodes values c final_codes
  write_final final_codes h = record {
    kept = h.kept;
    past = λ q k lt. h.past q k (let w = count_no_lower q in omega (arith, w, lt));
    ended = λ q e. elim (cases_eq q p) as (λ _. final_codes q (c.count q) ≡ c.code q (c.count q)) [
      | inl i ↦ h.past q (c.count q) (let w = count_raised in let u = ap z.count i in let t = ap c.count i in omega (arith, w, u, t))
      | inr ne ↦ ap (final_codes q) (sym (same q ne)) ∙ h.ended q (put_other p q true c.writing ne ∙ e) ∙ ap (c.code q) (same q ne)
    ];
    apart = h.apart;
    above = λ q x w e u. elim (cases_eq q p) [
      | inl i ↦ absurd (let f : None ≡ Some x = sym e ∙ sym (h.past q (c.count q) (let w = count_raised in let u = ap z.count i in let t = ap c.count i in omega (arith, w, u, t))) ∙ u in cc)
      | inr ne ↦
          (let g = h.above q x (put_other p q true c.writing ne ∙ w) (ap (c.code q) (same q ne) ∙ e) (ap (final_codes q) (same q ne) ∙ u) in
          (let a : z.floor q < x = g.0 in let b : z.floor q ≡ c.floor q = put_other p q c.top c.floor ne in omega (arith, a, b), g.1 ∙ put_other p q v c.value ne))
    ];
  }
    where
      same : (q : ℕ) → (q ≡ p → ⊥) → z.count q ≡ c.count q
      same q ne = put_other p q (c.count p + 1) c.count ne

  -- codes that were issued are still issued
  issued_more : (final_codes : CodeTable) (x : ℕ) → IsIssued c final_codes x → IsIssued z final_codes x
  issued_more final_codes x (inl e) = inl e
  issued_more final_codes x (inr k) = inr (k.0, (k.1.0, (let w = count_no_lower k.0 in let l : k.1.0 ≤ c.count k.0 = k.1.1.0 in omega (arith, w, l), k.1.1.1)))

  -- besides the codes issued before, only that of the new write is issued
  issued_else : (final_codes : CodeTable) (x : ℕ) → (final_codes p (c.count p + 1) ≡ Some x → ⊥) → IsIssued z final_codes x → IsIssued c final_codes x
  issued_else final_codes x ne (inl e) = inl e
  issued_else final_codes x ne (inr k) = inr (k.0, (k.1.0, (low, k.1.1.1)))
    where
      low : k.1.0 ≤ c.count k.0
      low = elim (cases_eq k.0 p) [
        | inr other ↦ (let w = put_other p k.0 (c.count p + 1) c.count other in let l : k.1.0 ≤ z.count k.0 = k.1.1.0 in omega (arith, w, l))
        | inl i ↦ elim (cases_eq k.1.0 (c.count p + 1)) [
          | inl last ↦ absurd (ne (ap (final_codes p) (sym last) ∙ ap (λ q. final_codes q k.1.0) (sym i) ∙ k.1.1.1))
          | inr other ↦ (let w = count_raised in let u = ap z.count i in let t = ap c.count i in let l : k.1.0 ≤ z.count k.0 = k.1.1.0 in omega (arith, w, u, t, l, other))
        ]
      ]

  write_ranks : (final_codes : CodeTable) → AreFinalCodes values z final_codes → (r : Ranking) → RanksAgree values c final_codes r → (o : Option ℕ) → final_codes p (c.count p + 1) ≡ o → (n : Option ℕ) × (HasRank r (Invoke p (Write v)) n × RanksAgree values z final_codes (after_rank r (Invoke p (Write v)) n))
  write_ranks final_codes h r a None e = (
    None,
    (
      tt,
      record {
        top = a.top;
        floor = same_put p r.top c.top r.floor c.floor a.top a.floor;
        mine = λ q w. elim (cases_eq q p) as (λ _. put p None r.mine q ≡ final_codes q (z.count q)) [
          | inl i ↦ ap (put p None r.mine) i ∙ put_same p None r.mine ∙ sym (ap (λ j. final_codes j (z.count j)) i ∙ ap (final_codes p) count_raised ∙ e)
          | inr ne ↦ put_other p q None r.mine ne ∙ a.mine q (sym (put_other p q true c.writing ne) ∙ w) ∙ ap (final_codes q) (sym (put_other p q (c.count p + 1) c.count ne))
        ];
        rest = no_rank_more p None r.mine c.writing a.rest;
        issued = λ x k. a.issued x (issued_else final_codes x (λ f. (let u : None ≡ Some x = sym e ∙ f in cc)) k);
        unissued = λ x ne. a.unissued x (λ k. ne (issued_more final_codes x k));
      },
    ),
  )
  write_ranks final_codes h r a (Some n) e =
      let free : z.code p (z.count p) ≡ None = ap (c.code p) count_raised ∙ s.later p (c.count p + 1) (omega arith) in
      let there : final_codes p (z.count p) ≡ Some n = ap (final_codes p) count_raised ∙ e in
      let g = h.above p n (put_same p true c.writing) free there in
      let over : c.top < n = (let u : z.floor p < n = g.0 in let w : z.floor p ≡ c.top = put_same p c.top c.floor in omega (arith, u, w)) in (
        Some n,
        (
          (let t = a.top in omega (arith, t, over), a.unissued n (λ k. new n over e k)),
          record {
            top = a.top;
            floor = same_put p r.top c.top r.floor c.floor a.top a.floor;
            mine = λ q w. elim (cases_eq q p) as (λ _. put p (Some n) r.mine q ≡ final_codes q (z.count q)) [
              | inl i ↦ ap (put p (Some n) r.mine) i ∙ put_same p (Some n) r.mine ∙ sym (ap (λ j. final_codes j (z.count j)) i ∙ there)
              | inr ne ↦ put_other p q (Some n) r.mine ne ∙ a.mine q (sym (put_other p q true c.writing ne) ∙ w) ∙ ap (final_codes q) (sym (put_other p q (c.count p + 1) c.count ne))
            ];
            rest = no_rank_more p (Some n) r.mine c.writing a.rest;
            issued = λ x k. elim (cases_eq x n) as (λ _. put n (Some v) r.values x ≡ Some (x % values)) [
              | inl i ↦ ap (put n (Some v) r.values) i ∙ put_same n (Some v) r.values ∙ ap Some (sym (g.1 ∙ put_same p v c.value)) ∙ ap (λ j. Some (j % values)) (sym i)
              | inr ne ↦ put_other n x (Some v) r.values ne ∙ a.issued x (issued_else final_codes x (λ f. ne (sym (same_Some n x (sym e ∙ f)))) k)
            ];
            unissued = λ x ne.
                (let other : x ≡ n → ⊥ = λ i. ne (inr (p, (z.count p, (omega arith, there ∙ ap Some (sym i))))) in
                put_other n x (Some v) r.values other ∙ a.unissued x (λ k. ne (issued_more final_codes x k)));
          },
        ),
      )
    where
      new : (n : ℕ) → c.top < n → final_codes p (c.count p + 1) ≡ Some n → IsIssued c final_codes n → ⊥
      new n over e (inl i) = let l = s.low in omega (arith, l, i, over)
      new n over e (inr k) =
          let q = h.apart k.0 k.1.0 p (c.count p + 1) n k.1.1.1 e in
          let l : k.1.0 ≤ c.count k.0 = k.1.1.0 in
          let t = ap c.count q.0 in
          let u : k.1.0 ≡ c.count p + 1 = q.1 in omega (arith, l, t, u)

  write_leads : EventLeads values (Invoke p (Write v)) c z
  write_leads = record { consistent = write_consistent; final = write_final; ranks = λ final_codes h r a. write_ranks final_codes h r a (final_codes p (c.count p + 1)) refl }

-- a refused operation had no rank, and a ranking that agrees still does after it
refused_ranks : (values p : ℕ) (c : Coded) (final_codes : CodeTable) (r : Ranking) → (c.writing p ≡ false) ⊎ ((c.code p (c.count p) ≡ None) × (c.writing p ≡ true)) → AreFinalCodes values (after_refusal p c) final_codes → RanksAgree values c final_codes r → (r.mine p ≡ None) × RanksAgree values (after_refusal p c) final_codes r
refused_ranks values p c final_codes r q h a = (
  none,
  record { top = a.top; floor = a.floor; mine = λ q u. a.mine q (still_writes p q c.writing u).1; rest = no_rank_same p r.mine c.writing none a.rest; issued = a.issued; unissued = a.unissued },
)
  where
    none : r.mine p ≡ None
    none = elim q [ inl e ↦ a.rest p e | inr w ↦ a.mine p w.1 ∙ h.ended p (put_same p false c.writing) ∙ w.0 ]

-- each event of a step leads from what is known before it to what is known after it
event_leads : (values : ℕ) (e : Event) (c z : Coded) → AreConsistent c → EventChanges values (Some e) c z → EventLeads values e c z
event_leads values (Invoke p (Write v)) c z s h = subst (EventLeads values (Invoke p (Write v)) c) (sym h) (write_leads values p v c s)
event_leads values (Invoke p Read) c z s h = subst (EventLeads values (Invoke p Read) c) (sym h) (read_leads values p c s)
event_leads values (Got p x) c z s h = subst (EventLeads values (Got p x) c) (sym h.1.1.1.1.1) (got_leads values p x h.0 c s h.1.0 h.1.1.0 h.1.1.1.0 h.1.1.1.1.0)
event_leads values (Wrote p) c z s h = subst (EventLeads values (Wrote p) c) (sym h.1.1.1) (wrote_leads values p h.0 c s h.1.0 h.1.1.0)
event_leads values (Refused p layer) c z s h = subst (EventLeads values (Refused p layer) c) (sym h.1) (record {
  consistent = record { later = s.later; low = s.low; apart = s.apart };
  final = λ final_codes g. final_before_write_ends values p c (after_refusal p c) final_codes (refusal_ends_write p c) g;
  ranks = λ final_codes g r a. (None, refused_ranks values p c final_codes r h.0 g a);
})
event_leads values (Void p reason) c z s h = subst (EventLeads values (Void p reason) c) (sym h) (record { consistent = s; final = λ final_codes g. g; ranks = λ final_codes g r a. (None, (tt, a)) })
event_leads values (Stop p) c z s h = subst (EventLeads values (Stop p) c) (sym h) (record { consistent = s; final = λ final_codes g. g; ranks = λ final_codes g r a. (None, (tt, a)) })
event_leads values (Chosen p bit v) c z s h = subst (EventLeads values (Chosen p bit v) c) (sym h) (record { consistent = s; final = λ final_codes g. g; ranks = λ final_codes g r a. (None, (tt, a)) })

-- step i has event e, or none, and leads from c to z: z is consistent; final codes of z are final
-- codes of c; and ranks for the events after it give ranks for them and e
record StepLeads (values i : ℕ) (e : Option Event) (c z : Coded) : Type 0 where
  consistent : AreConsistent z
  final : (final_codes : CodeTable) → AreFinalCodes values z final_codes → AreFinalCodes values c final_codes
  join : (final_codes : CodeTable) → AreFinalCodes values z final_codes → (rest : List (ℕ × Event)) → ((r : Ranking) → RanksAgree values z final_codes r → Ranked r rest) → (r : Ranking) → RanksAgree values c final_codes r → Ranked r (at_index i e ++ rest)

-- so does each step's event, if there is one
step_leads : (values i : ℕ) (e : Option Event) (c z : Coded) → AreConsistent c → EventChanges values e c z → StepLeads values i e c z
step_leads values i None c z s h = subst (StepLeads values i None c) (sym h) (record { consistent = s; final = λ final_codes g. g; join = λ final_codes g rest more r a. more r a })
step_leads values i (Some e) c z s h =
    let k = event_leads values e c z s h in
    record { consistent = k.consistent; final = k.final; join = λ final_codes g rest more r a. (let x = k.ranks final_codes g r a in (x.0, (x.1.0, more (after_rank r e x.0) x.1.1))) }

-- the operations of all these steps can be given ranks
record CanBeRanked (values i : ℕ) (c : Coded) (es : List StepEvents) : Type 0 where
  final_codes : CodeTable
  final : AreFinalCodes values c final_codes
  ranked : (r : Ranking) → RanksAgree values c final_codes r → Ranked r (indexed i es)

-- if steps change codes as `StepChanges` says, their operations can be given ranks
ranks_from_codes : (values i : ℕ) (c : Coded) (es : List StepEvents) → AreConsistent c → Allowed (StepChanges values) c es → CanBeRanked values i c es
ranks_from_codes values i c [] s h = record {
  final_codes = c.code;
  final = record { kept = λ q k x e. e; past = λ q k lt. refl; ended = λ q e. refl; apart = s.apart; above = λ q x w e u. absurd (let f : None ≡ Some x = sym e ∙ u in cc) };
  ranked = λ r a. tt;
}
ranks_from_codes values i c (e ∷ es) s h =
    let z : Coded = h.0 in
    let t = h.1.0 in
    let s1 = takes_consistent values c t.taken t.takes s in
    let one = step_leads values i e.first t.taken t.mid s1 t.first in
    let s2 = takes_consistent values t.mid t.later t.retakes one.consistent in
    let two = step_leads values i e.second t.later z s2 t.second in
    let rest = ranks_from_codes values (i + 1) z es two.consistent h.1.1 in
    let f3 = rest.final in
    let f2 = two.final rest.final_codes f3 in
    let f2' = takes_final values t.mid t.later rest.final_codes t.retakes f2 in
    let f1 = one.final rest.final_codes f2' in
    record {
      final_codes = rest.final_codes;
      final = takes_final values c t.taken rest.final_codes t.takes f1;
      ranked = λ r a. subst (Ranked r) (sym (append_assoc (at_index i e.first) (at_index i e.second) (indexed (i + 1) es)))
          (one.join rest.final_codes f2' (at_index i e.second ++ indexed (i + 1) es)
          (λ r1 a1. two.join rest.final_codes f3 (indexed (i + 1) es) rest.ranked r1 (takes_agrees values t.mid t.later rest.final_codes r1 t.retakes a1))
          r (takes_agrees values c t.taken rest.final_codes r t.takes a));
    }

-- if steps from the first configuration on change codes as `StepChanges` says, their operations
-- have ranks
pub ranked_from_first : (limit : ℕ → Bool) (values v : ℕ) (es : List StepEvents) → v < values → v % values ≡ v → Allowed (StepChanges values) (uncoded limit v) es → Ranked (at_first v v) (indexed 0 es)
ranked_from_first limit values v es lt small h =
    let x = ranks_from_codes values 0 (uncoded limit v) es (record { later = λ q k l. refl; low = omega arith; apart = λ q k r l x e f. absurd (let g : None ≡ Some x = e in cc) }) h in
    x.ranked (at_first v v) (record {
      top = refl;
      floor = λ p. refl;
      mine = λ p w. absurd (let f : false ≡ true = w in cc);
      rest = λ p e. refl;
      issued = λ y k. elim k [
        | inl e ↦ ap (put v (Some v) (λ n. None)) e ∙ put_same v (Some v) (λ n. None) ∙ ap Some (sym small) ∙ ap (λ j. Some (j % values)) (sym e)
        | inr k ↦ absurd (none x.final_codes x.final k.0 k.1.0 y k.1.1.0 k.1.1.1)
      ];
      unissued = λ y ne. put_other v y (Some v) (λ n. None) (λ e. ne (inl e));
    })
  where
    none : (final_codes : CodeTable) → AreFinalCodes values (uncoded limit v) final_codes → (q k y : ℕ) → k ≤ 0 → final_codes q k ≡ Some y → ⊥
    none final_codes g q k y le e = let zero : k ≡ 0 = omega (arith, le) in let f : None ≡ Some y = sym (g.ended q refl) ∙ sym (ap (final_codes q) zero) ∙ e in cc
