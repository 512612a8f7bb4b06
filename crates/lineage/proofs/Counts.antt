-- The number of items of a list that pass a test, if None fails the test.
use Rattle.std.proofs.Common.{◌≡◌, ◌≢◌, ℕ, ◌+◌, ◌<◌, ◌≤◌, zero, suc, Bool, true, false, cond, List, [], ◌∷◌, drop, get_or, Option, None, refl, sym, ◌∙◌, ap, arith}
use Rattle.std.specs.List.{count_by}
use Rattle.std.proofs.lemmas.List.Sums.{sum_by-cons, sum_by-le-sum_by}

-- 1 if true, 0 if false
abbrev pub one_if : Bool → ℕ
one_if b = cond b 1 0

module _ {A : Type 0} (p : Option A → Bool) where
  count-cons : (x : Option A) (xs : List (Option A)) → count_by p (x ∷ xs) ≡ one_if (p x) + count_by p xs
  count-cons x xs = sum_by-cons (λ y. cond (p y) 1 0) x xs

  module _ (none : p None ≡ false) where
    -- the count is that of the first item plus that of the others
    count_first_and_rest : (xs : List (Option A)) → count_by p xs ≡ one_if (p (get_or xs zero None)) + count_by p (drop 1 xs)
    count_first_and_rest [] = let nothing : one_if (p None) ≡ 0 = ap one_if none in let e : 0 ≡ one_if (p None) + 0 = omega (arith, nothing) in e
    count_first_and_rest (x ∷ xs) = count-cons x xs

    get-tail : (xs : List (Option A)) (j : ℕ) → get_or (drop 1 xs) j None ≡ get_or xs (suc j) None
    get-tail [] j = refl
    get-tail (x ∷ xs) j = refl

    -- the count depends only on which indices pass
    pub count_same : (xs ys : List (Option A)) → ((j : ℕ) → p (get_or ys j None) ≡ p (get_or xs j None)) → count_by p ys ≡ count_by p xs
    count_same [] [] h = refl
    count_same [] (y ∷ ys) h =
        let first : one_if (p y) ≡ 0 = ap one_if (h zero ∙ none) in
        let rest : count_by p ys ≡ 0 = count_same [] ys (λ j. h (suc j)) in
        count-cons y ys ∙ (omega (arith, first, rest))
    count_same (x ∷ xs) [] h =
        let first : one_if (p x) ≡ 0 = ap one_if (sym (h zero) ∙ none) in
        let rest : 0 ≡ count_by p xs = count_same xs [] (λ j. h (suc j)) in
        let all : 0 ≡ one_if (p x) + count_by p xs = omega (arith, first, rest) in
        all ∙ sym (count-cons x xs)
    count_same (x ∷ xs) (y ∷ ys) h =
        let first : one_if (p y) ≡ one_if (p x) = ap one_if (h zero) in
        let rest : count_by p ys ≡ count_by p xs = count_same xs ys (λ j. h (suc j)) in
        let both : one_if (p y) + count_by p ys ≡ one_if (p x) + count_by p xs = omega (arith, first, rest) in
        count-cons y ys ∙ both ∙ sym (count-cons x xs)

    -- the count after a change at one index
    pub count_changed : (k : ℕ) (xs ys : List (Option A)) → ((j : ℕ) → j ≢ k → p (get_or ys j None) ≡ p (get_or xs j None))
        → count_by p ys + one_if (p (get_or xs k None)) ≡ count_by p xs + one_if (p (get_or ys k None))
    count_changed zero xs ys h =
        let rest : count_by p (drop 1 ys) ≡ count_by p (drop 1 xs) =
        count_same (drop 1 xs) (drop 1 ys) (λ j. ap p (get-tail ys j) ∙ h (suc j) (λ e. absurd (omega (arith, e))) ∙ ap p (sym (get-tail xs j))) in
        let a = count_first_and_rest xs in let b = count_first_and_rest ys in
        omega (arith, rest, a, b)
    count_changed (suc k) xs ys h =
        let first : one_if (p (get_or ys zero None)) ≡ one_if (p (get_or xs zero None)) = ap one_if (h zero (λ e. absurd (omega (arith, e)))) in
        let rest : count_by p (drop 1 ys) + one_if (p (get_or (drop 1 xs) k None)) ≡ count_by p (drop 1 xs) + one_if (p (get_or (drop 1 ys) k None)) =
        count_changed k (drop 1 xs) (drop 1 ys) (λ j ne. ap p (get-tail ys j) ∙ h (suc j) (λ e. ne (omega (arith, e))) ∙ ap p (sym (get-tail xs j))) in
        let a = count_first_and_rest xs in let b = count_first_and_rest ys in
        let c = ap (λ o. one_if (p o)) (get-tail xs k) in let d = ap (λ o. one_if (p o)) (get-tail ys k) in
        omega (arith, first, rest, a, b, c, d)

    pub count_none : (xs : List (Option A)) → ((j : ℕ) → p (get_or xs j None) ≡ false) → count_by p xs ≡ 0
    count_none xs h = count_same [] xs (λ j. h j ∙ sym none)

  -- if the count isn't 0, some item passes
  pub count_some : (xs : List (Option A)) → 0 < count_by p xs → (k : ℕ) × (p (get_or xs k None) ≡ true)
  count_some [] h = absurd (omega arith)
  count_some (x ∷ xs) h = by (p x) refl (count_some xs)
    where
      later : (k : ℕ) × (p (get_or xs k None) ≡ true) → (k : ℕ) × (p (get_or (x ∷ xs) k None) ≡ true)
      later r = (suc r.0, r.1)

      by : (b : Bool) → p x ≡ b → (0 < count_by p xs → (k : ℕ) × (p (get_or xs k None) ≡ true)) → (k : ℕ) × (p (get_or (x ∷ xs) k None) ≡ true)
      by true e rest = (zero, e)
      by false e rest =
          let first : one_if (p x) ≡ 0 = ap one_if e in
          let all = count-cons x xs in
          later (rest (omega (arith, first, all, h)))

  -- if the count is 0, each item fails
  pub none_pass : (xs : List (Option A)) (k : ℕ) → p None ≡ false → count_by p xs ≡ 0 → p (get_or xs k None) ≡ false
  none_pass [] k none h = none
  none_pass (x ∷ xs) zero none h = by (p x) refl
    where
      by : (b : Bool) → p x ≡ b → p x ≡ false
      by true e =
          let first : one_if (p x) ≡ 1 = ap one_if e in
          let all = count-cons x xs in
          absurd (omega (arith, first, all, h))
      by false e = e
  none_pass (x ∷ xs) (suc k) none h = let all = count-cons x xs in none_pass xs k none (omega (arith, all, h))

-- at least as many items pass a weaker test
pub count_weaker : {B : Type 0} (p q : B → Bool) (xs : List B) → ((x : B) → p x ≡ true → q x ≡ true) → count_by p xs ≤ count_by q xs
count_weaker p q xs h = sum_by-le-sum_by (λ x. one_if (p x)) (λ x. one_if (q x)) xs (λ x. by (p x) (q x) (h x))
  where
    by : (b c : Bool) → (b ≡ true → c ≡ true) → one_if b ≤ one_if c
    by false c f = omega arith
    by true true f = omega arith
    by true false f = let no : false ≡ true = f refl in absurd (cc)
