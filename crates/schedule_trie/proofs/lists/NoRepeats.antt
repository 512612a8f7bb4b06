-- Lists in which no number is twice, and keys of a path.
use Rattle.std.proofs.Common.{◌≡◌, ℕ, zero, suc, ◌<◌, ◌≤◌, true, false, ◌||◌, eqb, List, [], ◌∷◌, ◌++◌, length, get_or, Option, Some, None, refl, sym, ap, subst, ◌∙◌, true≢false, arith}
use Rattle.std.proofs.lemmas.Map.Keys.{IsDistinct-cons}
use Rattle.std.proofs.lemmas.Map.Steps.{length-le_from_distinct_below}
use Rattle.std.specs.List.{IsDistinct, list_any}
use Rattle.schedule_trie.specs.Trie.{has, Once, Linked}
use Rattle.lineage.proofs.KeyLists.{AllByRecursion-from_has}
pub use Rattle.lineage.proofs.KeyLists.{has_cases, has-head, has-tail, has-append, has-left, has-right, has_not_from, last_from-push}

-- two joined lists have no number twice if neither has, and they have none in common
pub Once-append : (xs ys : List ℕ) → Once xs → Once ys → ((x : ℕ) → has x xs ≡ true → has x ys ≡ false) → Once (xs ++ ys)
Once-append [] ys a b h = b
Once-append (x ∷ xs) ys a b h =
    (has-append x xs ys ∙ ap (λ c. c || has x ys) a.0 ∙ h x (has-head x xs), Once-append xs ys a.1 b (λ z e. h z (has-tail z x xs e)))

-- a part of a list that has no number twice has none twice
pub Once-left : (xs ys : List ℕ) → Once (xs ++ ys) → Once xs
Once-left [] ys h = tt
Once-left (x ∷ xs) ys h =
    (has_not_from x xs (λ g. true≢false (sym (has-left x xs ys g) ∙ h.0)), Once-left xs ys h.1)

pub Once-right : (xs ys : List ℕ) → Once (xs ++ ys) → Once ys
Once-right [] ys h = h
Once-right (x ∷ xs) ys h = Once-right xs ys h.1

-- no number is in both of two lists that have no number twice when joined
pub Once-apart : (x : ℕ) (xs ys : List ℕ) → Once (xs ++ ys) → has x xs ≡ true → has x ys ≡ true → ⊥
Once-apart x [] ys once a b = true≢false (sym a)
Once-apart x (z ∷ xs) ys once a b =
    has_cases x z xs ⊥ a
    (λ e. true≢false (sym (has-right z xs ys (subst (λ w. has w ys ≡ true) e b)) ∙ once.0))
    (λ r. Once-apart x xs ys once.1 r b)

-- `Once` and `has` in std's words
IsDistinct-from_once : (xs : List ℕ) → Once xs → IsDistinct eqb xs
unfolding IsDistinct
IsDistinct-from_once [] h = tt
IsDistinct-from_once (x ∷ xs) h = IsDistinct-cons eqb x xs (AllByRecursion-from_has x xs h.0) (IsDistinct-from_once xs h.1)

has-list_any : (x : ℕ) (xs : List ℕ) → list_any (eqb x) xs ≡ has x xs
has-list_any x [] = refl
has-list_any x (y ∷ ys) = ap (λ c. eqb x y || c) (has-list_any x ys)

-- a list with no number twice, all below n, has at most n items
pub Once-bounded : (xs : List ℕ) (n : ℕ) → Once xs → ((x : ℕ) → has x xs ≡ true → x < n) → length xs ≤ n
Once-bounded xs n once below =
    length-le_from_distinct_below xs n (IsDistinct-from_once xs once) (λ q h. below q (sym (has-list_any q xs) ∙ h))

-- these are the keys from `up` upwards, the nearest first; none if `up` is None
abbrev pub AreAbove : (ℕ → Option ℕ) → Option ℕ → List ℕ → Type 0
AreAbove above up [] = up ≡ None
AreAbove above up (k ∷ ks) = (up ≡ Some k) × AreAbove above (above k) ks

-- at most one list of keys goes up from a key
pub AreAbove-one : (above : ℕ → Option ℕ) (up : Option ℕ) (xs ys : List ℕ) → AreAbove above up xs → AreAbove above up ys → length xs ≡ length ys
AreAbove-one above up [] [] a b = refl
AreAbove-one above up [] (y ∷ ys) a b = let e : None ≡ Some y = sym a ∙ b.0 in absurd (cc)
AreAbove-one above up (x ∷ xs) [] a b = let e : None ≡ Some x = sym b ∙ a.0 in absurd (cc)
AreAbove-one above up (x ∷ xs) (y ∷ ys) a b =
    let e : Some x ≡ Some y = sym a.0 ∙ b.0 in
    let same : x ≡ y = cc in
    ap suc (AreAbove-one above (above x) xs ys a.1 (subst (λ z. AreAbove above (above z) ys) (sym same) b.1))

-- from a key of such a list a shorter one goes up
AreAbove-from : (above : ℕ → Option ℕ) (up : Option ℕ) (k : ℕ) (xs : List ℕ) → AreAbove above up xs → has k xs ≡ true
    → (ys : List ℕ) × AreAbove above (above k) ys × (length ys < length xs)
AreAbove-from above up k [] a h = absurd (true≢false (sym h))
AreAbove-from above up k (x ∷ xs) a h =
    has_cases k x xs ((ys : List ℕ) × AreAbove above (above k) ys × (length ys < suc (length xs))) h
    (λ e. (xs, subst (λ z. AreAbove above (above z) xs) (sym e) a.1, omega arith))
    (λ r. let p = AreAbove-from above (above x) k xs a.1 r in (p.0, p.1, omega arith))

Once-from_linked_below : (above : ℕ → Option ℕ) (up : Option ℕ) (seen ks : List ℕ) → AreAbove above up seen → Linked above up ks
    → Once ks × ((j : ℕ) → has j seen ≡ true → has j ks ≡ false)
Once-from_linked_below above up seen [] u l = (tt, λ j h. refl)
Once-from_linked_below above up seen (k ∷ ks) u l =
    let at_k : AreAbove above (above k) seen = subst (λ o. AreAbove above o seen) (sym l.0) u in
    let rest = Once-from_linked_below above (Some k) (k ∷ seen) ks (refl, at_k) l.1 in
    let fresh : has k seen ≡ true → ⊥ = λ h. let p = AreAbove-from above up k seen u h in
    let e : length p.0 ≡ length seen = AreAbove-one above (above k) p.0 seen p.1 at_k in omega arith in (
      (rest.1 k (has-head k seen), rest.0),
      λ j h. has_not_from j (k ∷ ks) (λ g. has_cases j k ks ⊥ g
          (λ e. fresh (subst (λ z. has z seen ≡ true) e h))
          (λ r. true≢false (sym r ∙ rest.1 j (has-tail j k seen h)))),
    )

-- a path has no key twice
pub Once-from_linked : (above : ℕ → Option ℕ) (ks : List ℕ) → Linked above None ks → Once ks
Once-from_linked above ks l = (Once-from_linked_below above None [] ks refl l).0

-- an item of a list is in it
pub has-get_or : (ks : List ℕ) (i : ℕ) → i < length ks → has (get_or ks i 0) ks ≡ true
has-get_or [] i h = absurd (omega arith)
has-get_or (k ∷ ks) zero h = has-head k ks
has-get_or (k ∷ ks) (suc i) h = has-tail (get_or ks i 0) k ks (has-get_or ks i (omega arith))

pub has-in : (key : ℕ) (front back : List ℕ) → has key (front ++ key ∷ back) ≡ true
has-in key front back = has-right key front (key ∷ back) (has-head key back)

-- a key of a list with no number twice isn't among the keys before it
pub once_before : (front : List ℕ) (key : ℕ) (back : List ℕ) → Once (front ++ key ∷ back) → has key front ≡ false
once_before front key back h = has_not_from key front (λ g. Once-apart key front (key ∷ back) h g (has-head key back))
