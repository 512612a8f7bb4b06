-- A function changed at one argument: `put`, which is among the definitions of ranks.
use Rattle.std.proofs.Common.{◌≡◌, ℕ, refl, sym, ap, subst, ◌∙◌, inl, inr, eq-eqb}
use Rattle.std.specs.Prelude.{if◌then◌else◌}
use Rattle.std.proofs.lemmas.Bool.{cases_eq, ne_eqb}
pub use Rattle.frames.specs.correctness.Ranks.{put}

pub put_same : {A : Type 0} (i : ℕ) (x : A) (f : ℕ → A) → put i x f i ≡ x
put_same i x f = ap (λ c. if c then x else f i) (eq-eqb i i refl)

pub put_other : {A : Type 0} (i k : ℕ) (x : A) (f : ℕ → A) → (k ≡ i → ⊥) → put i x f k ≡ f k
put_other i k x f ne = ap (λ c. if c then x else f k) (ne_eqb k i ne)

pub put_zero : {A : Type 0} (i : ℕ) (x : A) (f : ℕ → A) → i ≡ 0 → put i x f 0 ≡ x
put_zero i x f e = sym (ap (put i x f) e) ∙ put_same i x f

-- putting a value back changes nothing
pub put_back_at : {A : Type 0} (i k : ℕ) (f : ℕ → A) → f k ≡ put i (f i) f k
put_back_at i k f =
    elim (cases_eq k i) [
      | inl e ↦ ap f e ∙ sym (ap (put i (f i) f) e ∙ put_same i (f i) f)
      | inr ne ↦ sym (put_other i k (f i) f ne)
    ]

pub put_back : {A : Type 0} (i : ℕ) (f : ℕ → A) → f ≡ put i (f i) f
put_back i f = λ d k. put_back_at i k f d

-- putting x at i changes nothing, if f is x at i already
pub put_present_at : {A : Type 0} (i k : ℕ) (x : A) (f : ℕ → A) → f i ≡ x → f k ≡ put i x f k
put_present_at i k x f e = subst (λ y. f k ≡ put i y f k) e (put_back_at i k f)

-- the second of two values put at one argument replaces the first
pub put_twice_at : {A : Type 0} (i k : ℕ) (x y : A) (f : ℕ → A) → put i y (put i x f) k ≡ put i y f k
put_twice_at i k x y f = elim (cases_eq k i) as (λ _. put i y (put i x f) k ≡ put i y f k) [
  | inl same ↦ ap (put i y (put i x f)) same ∙ put_same i y (put i x f) ∙ sym (ap (put i y f) same ∙ put_same i y f)
  | inr other ↦ put_other i k y (put i x f) other ∙ put_other i k x f other ∙ sym (put_other i k y f other)
]

pub put_twice : {A : Type 0} (i : ℕ) (x y : A) (f : ℕ → A) → put i y (put i x f) ≡ put i y f
put_twice i x y f = λ d k. put_twice_at i k x y f d

-- a property holds of the changed function if it holds of x at i, and of f at all other arguments
pub put_all : {A : Type 0} (Q : ℕ → A → Type 0) (i : ℕ) (x : A) (f : ℕ → A) → Q i x → ((k : ℕ) → (k ≡ i → ⊥) → Q k (f k)) → (k : ℕ) → Q k (put i x f k)
put_all Q i x f here there k =
    elim (cases_eq k i) [
      | inl e ↦ subst (λ j. Q j (put i x f j)) (sym e) (subst (Q i) (sym (put_same i x f)) here)
      | inr ne ↦ subst (Q k) (sym (put_other i k x f ne)) (there k ne)
    ]
