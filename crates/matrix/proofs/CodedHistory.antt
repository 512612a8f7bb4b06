-- What is known of a matrix's history, with the code that each write has taken, and how each step
-- changes it.
use Rattle.std.proofs.Common.{◌≡◌, ℕ, ◌+◌, ◌%◌, ◌<◌, ◌≤◌, max, Bool, true, false, Option, Some, None, inl, inr, sym, ap, subst, ◌∙◌, arith}
use Rattle.std.specs.Prelude.{◌⊎◌}
use Rattle.std.proofs.lemmas.Bool.{cases_eq, cases_lt}
use Rattle.frames.specs.declared.types.Op.{Op}
use Rattle.frames.specs.declared.types.Op.TheVariants.{Read, Write}
use Rattle.frames.specs.declared.types.Event.{Event}
use Rattle.frames.specs.declared.types.Event.TheVariants.{Invoke, Got, Wrote, Refused}
use Rattle.frames.specs.declared.types.StepEvents.{StepEvents}
use Rattle.frames.proofs.Pointwise.{put, put_same, put_other}

-- `top` is the greatest code of an operation that has returned, at first the initial value. Of each
-- process, `count` is how many writes it has invoked; `floor` what `top` was when it invoked its
-- last operation; `value` the value of its last write; `code` gives each of its writes, by number,
-- the code that it has taken, if any; and `writing` says whether it is in a write. `held` is the
-- code that it last wrote to its whole row, and `rows` how often it has written its whole row
-- (`limit` says after how many writes a part takes one more); `held_at_start` is what `held` was,
-- for every process, when it invoked its last operation.
pub record Coded : Type 0 where
  pub initial : ℕ
  pub top : ℕ
  pub count : ℕ → ℕ
  pub floor : ℕ → ℕ
  pub value : ℕ → ℕ
  pub code : ℕ → ℕ → Option ℕ
  pub writing : ℕ → Bool
  pub limit : ℕ → Bool
  pub rows : ℕ → ℕ
  pub held : ℕ → ℕ
  pub held_at_start : ℕ → ℕ → ℕ

-- x is the initial value, or the code of a write
abbrev pub IsKnownCode : Coded → ℕ → Type 0
IsKnownCode c x = (x ≡ c.initial) ⊎ ((q : ℕ) × ((k : ℕ) × (c.code q k ≡ Some x)))

-- x is what a column has given so far: 0 before its first read
abbrev pub IsGreatestSoFar : Coded → ℕ → Type 0
IsGreatestSoFar c x = (x ≡ 0) ⊎ IsKnownCode c x

-- once a column has given a known code, the greatest one that it has given is known
pub greatest_so_far_known : (c : Coded) (g x : ℕ) → IsGreatestSoFar c g → IsKnownCode c x → IsKnownCode c (max g x)
greatest_so_far_known c g x h k = elim (cases_lt x g) [
  | inr le ↦ subst (IsKnownCode c) (let e : x ≡ max g x = omega (arith, le) in e) k
  | inl lt ↦ elim h [
    | inl e ↦ absurd (omega (arith, lt, e))
    | inr known ↦ subst (IsKnownCode c) (let e : g ≡ max g x = omega (arith, lt) in e) known
  ]
]

-- what is known once p has written x to its whole row, and its operation has returned
abbrev pub returned : ℕ → ℕ → Coded → Coded
returned p x c = record c { top = max c.top x; held = put p x c.held; writing = put p false c.writing; rows = put p (c.rows p + 1) c.rows }

-- whether an operation is a write
abbrev pub is_write : Op → Bool
is_write (Write v) = true
is_write Read = false

-- each process's number of writes, once p has invoked this operation
abbrev pub counts_after : ℕ → Op → Coded → ℕ → ℕ
counts_after p (Write v) c = put p (c.count p + 1) c.count
counts_after p Read c = c.count

-- the value of each process's last write, once p has invoked this operation
abbrev pub values_after : ℕ → Op → Coded → ℕ → ℕ
values_after p (Write v) c = put p v c.value
values_after p Read c = c.value

-- what is known once p has invoked operation o
abbrev pub invoked : ℕ → Op → Coded → Coded
invoked p o c = record c { count = counts_after p o c; floor = put p c.top c.floor; value = values_after p o c; held_at_start = put p c.held c.held_at_start; writing = put p (is_write o) c.writing }

-- what is known once p's operation has been refused
abbrev pub after_refusal : ℕ → Coded → Coded
after_refusal p c = record c { writing = put p false c.writing }

-- what is known once p's write has taken code z
abbrev pub took_code : ℕ → ℕ → Coded → Coded
took_code p z c = record c { code = put p (put (c.count p) (Some z) (c.code p)) c.code }

-- p's current write then has code z
pub own_code_taken : (p z : ℕ) (c : Coded) → (took_code p z c).code p (c.count p) ≡ Some z
own_code_taken p z c = ap (λ (g : ℕ → Option ℕ). g (c.count p)) (put_same p (put (c.count p) (Some z) (c.code p)) c.code) ∙ put_same (c.count p) (Some z) (c.code p)

-- p's other writes then have the codes that they had
pub own_other_codes : (p z k : ℕ) (c : Coded) → (k ≡ c.count p → ⊥) → (took_code p z c).code p k ≡ c.code p k
own_other_codes p z k c ne = ap (λ (g : ℕ → Option ℕ). g k) (put_same p (put (c.count p) (Some z) (c.code p)) c.code) ∙ put_other (c.count p) k (Some z) (c.code p) ne

-- the other processes' writes then have the codes that they had
pub others_codes : (p z q k : ℕ) (c : Coded) → (q ≡ p → ⊥) → (took_code p z c).code q k ≡ c.code q k
others_codes p z q k c ne = ap (λ (g : ℕ → Option ℕ). g k) (put_other p q (put (c.count p) (Some z) (c.code p)) c.code ne)

-- codes that are known stay known when a write without a code takes one
pub known_after_taking : (p z : ℕ) (c : Coded) → c.code p (c.count p) ≡ None → (y : ℕ) → IsKnownCode c y → IsKnownCode (took_code p z c) y
known_after_taking p z c free y h = elim h [
  | inl e ↦ inl e
  | inr k ↦ inr (
    k.0,
    (
      k.1.0,
      elim (cases_eq k.0 p) [
        | inr ne ↦ others_codes p z k.0 k.1.0 c ne ∙ k.1.1
        | inl e ↦ elim (cases_eq k.1.0 (c.count p)) [
          | inr ne ↦ ap (λ q. (took_code p z c).code q k.1.0) e ∙ own_other_codes p z k.1.0 c ne ∙ ap (λ q. c.code q k.1.0) (sym e) ∙ k.1.1
          | inl i ↦ absurd (let u : None ≡ Some y = sym free ∙ sym (ap (c.code p) i) ∙ ap (λ q. c.code q k.1.0) (sym e) ∙ k.1.1 in cc)
        ]
      ],
    ),
  )
]

-- how an event changes what is known, from c to z: a read returns x with a known code n, a write
-- returns with the code that it has taken, and a refused write has taken none
abbrev pub EventChanges : ℕ → Option Event → Coded → Coded → Type 0
EventChanges values None c z = z ≡ c
EventChanges values (Some (Invoke p o)) c z = z ≡ invoked p o c
EventChanges values (Some (Got p x)) c z = (n : ℕ) × (IsKnownCode c n × ((x ≡ n % values) × ((c.floor p ≤ n) × ((c.writing p ≡ false) × (z ≡ returned p n c)))))
EventChanges values (Some (Wrote p)) c z = (n : ℕ) × ((c.code p (c.count p) ≡ Some n) × ((c.writing p ≡ true) × (z ≡ returned p n c)))
EventChanges values (Some (Refused p layer)) c z = ((c.writing p ≡ false) ⊎ ((c.code p (c.count p) ≡ None) × (c.writing p ≡ true))) × (z ≡ after_refusal p c)
EventChanges values _ c z = z ≡ c

-- from c to d, a process's write takes a code, which is new
pub record TakesNewCode (values : ℕ) (c d : Coded) : Type 0 where
  pub process : ℕ
  pub code_taken : ℕ
  pub after : d ≡ took_code process code_taken c
  pub had_no_code : c.code process (c.count process) ≡ None
  pub writes : c.writing process ≡ true
  pub above : c.floor process < code_taken
  pub new : (q k : ℕ) → c.code q k ≡ Some code_taken → ⊥
  pub value : code_taken % values ≡ c.value process

-- from c to d, a process's write takes a new code, or nothing changes
abbrev pub MayTakeCode : ℕ → Coded → Coded → Type 0
MayTakeCode values c d = (d ≡ c) ⊎ TakesNewCode values c d

-- how one step with events e changes what is known, from c to z: codes may be taken before each
-- event
pub record StepChanges (values : ℕ) (c : Coded) (e : StepEvents) (z : Coded) : Type 0 where
  pub taken : Coded
  pub takes : MayTakeCode values c taken
  pub mid : Coded
  pub first : EventChanges values e.first taken mid
  pub later : Coded
  pub retakes : MayTakeCode values mid later
  pub second : EventChanges values e.second later z

-- what is known at first, if the initial value is v
abbrev pub uncoded : (ℕ → Bool) → ℕ → Coded
uncoded limit v = record {
  limit = limit;
  rows = λ p. 0;
  initial = v;
  top = v;
  count = λ p. 0;
  floor = λ p. v;
  value = λ p. 0;
  code = λ p k. None;
  writing = λ p. false;
  held = λ p. v;
  held_at_start = λ p q. v;
}
