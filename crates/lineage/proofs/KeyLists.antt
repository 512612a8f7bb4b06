-- Membership in lists of keys.
use Rattle.std.proofs.Common.{◌≡◌, ◌⊎◌, ℕ, Bool, true, false, ◌||◌, nat_eq, eqb, List, [], ◌∷◌, ◌++◌, Option, Some, reverse, refl, sym, ap, subst, ◌∙◌, inl, inr, true≢false, eq-eqb}
use Rattle.std.proofs.lemmas.Bool.{eqb-true, false_from_ne_true, or_left, or_right}
use Rattle.std.proofs.lemmas.List.{reverse-append}
use Rattle.std.specs.List.{AllByRecursion, list_any}
use Rattle.lineage.specs.Family.{has, last_from, IsOnPath}

-- a number in a list is the first item, or is in the rest
pub has_cases : (x y : ℕ) (ys : List ℕ) (P : Type 0) → has x (y ∷ ys) ≡ true → (x ≡ y → P) → (has x ys ≡ true → P) → P
has_cases x y ys P h same rest = by (nat_eq x y) refl
  where
    by : (b : Bool) → nat_eq x y ≡ b → P
    by true e = same (eqb-true x y e)
    by false e = rest (sym (ap (λ c. c || has x ys) e) ∙ h)

pub has-head : (x : ℕ) (ys : List ℕ) → has x (x ∷ ys) ≡ true
has-head x ys = ap (λ c. c || has x ys) (eq-eqb x x refl)

pub has-tail : (x y : ℕ) (ys : List ℕ) → has x ys ≡ true → has x (y ∷ ys) ≡ true
has-tail x y ys h = by (nat_eq x y) refl
  where
    by : (b : Bool) → nat_eq x y ≡ b → has x (y ∷ ys) ≡ true
    by true e = ap (λ c. c || has x ys) e
    by false e = ap (λ c. c || has x ys) e ∙ h

-- a number is in two joined lists exactly if it is in one of the two
pub has-append : (x : ℕ) (ys zs : List ℕ) → has x (ys ++ zs) ≡ (has x ys || has x zs)
has-append x [] zs = refl
has-append x (y ∷ ys) zs = by (nat_eq x y) (has-append x ys zs)
  where
    by : (b : Bool) → has x (ys ++ zs) ≡ (has x ys || has x zs) → (b || has x (ys ++ zs)) ≡ ((b || has x ys) || has x zs)
    by true rest = refl
    by false rest = rest

pub has-left : (x : ℕ) (ys zs : List ℕ) → has x ys ≡ true → has x (ys ++ zs) ≡ true
has-left x ys zs h = has-append x ys zs ∙ or_left (has x ys) (has x zs) h

pub has-right : (x : ℕ) (ys zs : List ℕ) → has x zs ≡ true → has x (ys ++ zs) ≡ true
has-right x ys zs h = has-append x ys zs ∙ or_right (has x ys) (has x zs) h

-- `has-reverse` for one item: the test of the first item comes last
or_swapped : (b c : Bool) → (b || c) ≡ (c || (b || false))
or_swapped true true = refl
or_swapped true false = refl
or_swapped false true = refl
or_swapped false false = refl

-- reversing a list puts its first item last
pub reverse_cons : (y : ℕ) (ys : List ℕ) → reverse (y ∷ ys) ≡ reverse ys ++ y ∷ []
reverse_cons y ys = reverse-append (y ∷ []) ys

pub has-reverse : (x : ℕ) (ys : List ℕ) → has x (reverse ys) ≡ has x ys
has-reverse x [] = refl
has-reverse x (y ∷ ys) =
    ap (has x) (reverse_cons y ys) ∙ has-append x (reverse ys) (y ∷ []) ∙ ap (λ b. b || (nat_eq x y || false)) (has-reverse x ys)
    ∙ sym (or_swapped (nat_eq x y) (has x ys))

-- a number that can't be in a list isn't
pub has_not_from : (x : ℕ) (ys : List ℕ) → (has x ys ≡ true → ⊥) → has x ys ≡ false
has_not_from x ys h = false_from_ne_true (has x ys) h

-- a number in a list has a position there
pub IsOnPath-from_has : (x : ℕ) (ys : List ℕ) → has x ys ≡ true → IsOnPath ys x
IsOnPath-from_has x [] h = absurd (true≢false (sym h))
IsOnPath-from_has x (y ∷ ys) h =
    has_cases x y ys (IsOnPath (y ∷ ys) x) h
    (λ same. record { front = []; back = ys; is = ap (λ z. z ∷ ys) (sym same) })
    (λ rest. let s = IsOnPath-from_has x ys rest in record { front = y ∷ s.front; back = s.back; is = ap (λ l. y ∷ l) s.is })

pub AllByRecursion-from_has : (x : ℕ) (ys : List ℕ) → has x ys ≡ false → AllByRecursion (λ y. eqb x y ≡ false) ys
AllByRecursion-from_has x [] h = tt
AllByRecursion-from_has x (y ∷ ys) h = by (eqb x y) refl (AllByRecursion-from_has x ys)
  where
    by : (b : Bool) → eqb x y ≡ b → (has x ys ≡ false → AllByRecursion (λ z. eqb x z ≡ false) ys) → AllByRecursion (λ z. eqb x z ≡ false) (y ∷ ys)
    by true e rest = absurd (true≢false (sym (ap (λ c. c || has x ys) e) ∙ h))
    by false e rest = (e, rest (sym (ap (λ c. c || has x ys) e) ∙ h))

pub has_from_any : (x : ℕ) (ys : List ℕ) → list_any (eqb x) ys ≡ true → has x ys ≡ true
has_from_any x [] h = h
has_from_any x (y ∷ ys) h = by (eqb x y) refl (has_from_any x ys)
  where
    by : (b : Bool) → eqb x y ≡ b → (list_any (eqb x) ys ≡ true → has x ys ≡ true) → has x (y ∷ ys) ≡ true
    by true e rest = ap (λ c. c || has x ys) e
    by false e rest = ap (λ c. c || has x ys) e ∙ rest (sym (ap (λ c. c || list_any (eqb x) ys) e) ∙ h)

-- the last key of a list is the one added at its end
pub last_from-push : (first : Option ℕ) (ks : List ℕ) (k : ℕ) → last_from first (ks ++ k ∷ []) ≡ Some k
last_from-push first [] k = refl
last_from-push first (j ∷ ks) k = last_from-push (Some j) ks k

-- a number in a list to which one is added is in the list before, or is the added one
pub has_push : (x k : ℕ) (keys : List ℕ) → has x (keys ++ k ∷ []) ≡ true → (has x keys ≡ true) ⊎ (x ≡ k)
has_push x k [] h = has_cases x k [] ((has x [] ≡ true) ⊎ (x ≡ k)) h (λ e. inr e) (λ m. inl m)
has_push x k (j ∷ keys) h =
    has_cases x j (keys ++ k ∷ []) ((has x (j ∷ keys) ≡ true) ⊎ (x ≡ k)) h
    (λ e. inl (subst (λ z. has z (j ∷ keys) ≡ true) (sym e) (has-head j keys))) (λ m. later (has_push x k keys m))
  where
    later : (has x keys ≡ true) ⊎ (x ≡ k) → (has x (j ∷ keys) ≡ true) ⊎ (x ≡ k)
    later (inl m) = inl (has-tail x j keys m)
    later (inr e) = inr e
