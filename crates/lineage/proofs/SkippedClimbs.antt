-- Climbs and counts when a key is skipped.
use Rattle.std.proofs.Common.{◌≡◌, ◌≢◌, ℕ, ◌+◌, ◌<◌, ◌≤◌, Bool, true, false, not, cond, nat_eq, List, [], ◌∷◌, ◌++◌, length, map, reverse, Option, Some, None, refl, sym, ◌∙◌, ap, subst, arith, inl, inr, ◌⊎◌, eq-eqb, ne_eqb, append-nil}
use Rattle.std.specs.List.{count_by}
use Rattle.std.proofs.lemmas.Bool.{cases_eq}
use Rattle.std.proofs.lemmas.List.{length-map, ext_get_or}
use Rattle.std.proofs.lemmas.List.Sums.{sum_by-cons}
use Rattle.lineage.specs.Family.{has, keys_without}
use Rattle.lineage.specs.Climbs.{IsClimb}
use Rattle.lineage.specs.Lineages.{tip_at, is_key, is_above, past}
use Rattle.lineage.proofs.KeyLists.{has-head, has-tail, has_cases, reverse_cons}
use Rattle.lineage.proofs.Counts.{one_if}
use Rattle.lineage.proofs.Maps.{map_at}

-- `past` of the link of a key, if the key has an item
abbrev pub past_link : ℕ → Option ℕ → Option (Option ℕ) → Option (Option ℕ)
past_link key top None = None
past_link key top (Some next) = Some (past key top next)

module _ (key : ℕ) (top : Option ℕ) where
  pub past_key : (k : ℕ) → key ≡ k → past key top (Some k) ≡ top
  past_key k e = ap (λ b. cond b top (Some k)) (eq-eqb key k e)

  pub past_other : (k : ℕ) → key ≢ k → past key top (Some k) ≡ Some k
  past_other k ne = ap (λ b. cond b top (Some k)) (ne_eqb key k ne)

  pub past_unless_key : (o : Option ℕ) → (o ≡ Some key → ⊥) → past key top o ≡ o
  past_unless_key None h = refl
  past_unless_key (Some k) h = past_other k (λ e. h (ap Some (sym e)))

  pub kept_other : (k : ℕ) (keys : List ℕ) → key ≢ k → keys_without key (k ∷ keys) ≡ k ∷ keys_without key keys
  kept_other k keys ne = ap (λ b. cond (not b) (k ∷ keys_without key keys) (keys_without key keys)) (ne_eqb key k ne)

  pub gone_key : (k : ℕ) (keys : List ℕ) → key ≡ k → keys_without key (k ∷ keys) ≡ keys_without key keys
  gone_key k keys e = ap (λ b. cond (not b) (k ∷ keys_without key keys) (keys_without key keys)) (eq-eqb key k e)

  pub without-append : (xs ys : List ℕ) → keys_without key (xs ++ ys) ≡ keys_without key xs ++ keys_without key ys
  without-append [] ys = refl
  without-append (x ∷ xs) ys = by (cases_eq key x) (without-append xs ys)
    where
      by : (key ≡ x) ⊎ (key ≢ x) → keys_without key (xs ++ ys) ≡ keys_without key xs ++ keys_without key ys
          → keys_without key (x ∷ xs ++ ys) ≡ keys_without key (x ∷ xs) ++ keys_without key ys
      by (inl e) ih = gone_key x (xs ++ ys) e ∙ ih ∙ ap (λ l. l ++ keys_without key ys) (sym (gone_key x xs e))
      by (inr ne) ih = kept_other x (xs ++ ys) ne ∙ ap (λ l. x ∷ l) ih ∙ ap (λ l. l ++ keys_without key ys) (sym (kept_other x xs ne))

  pub without-reverse : (up : List ℕ) → reverse (keys_without key up) ≡ keys_without key (reverse up)
  without-reverse [] = refl
  without-reverse (k ∷ up) = by (cases_eq key k) (without-reverse up)
    where
      whole : keys_without key (reverse (k ∷ up)) ≡ keys_without key (reverse up) ++ keys_without key (k ∷ [])
      whole = ap (keys_without key) (reverse_cons k up) ∙ without-append (reverse up) (k ∷ [])

      by : (key ≡ k) ⊎ (key ≢ k) → reverse (keys_without key up) ≡ keys_without key (reverse up) → reverse (keys_without key (k ∷ up)) ≡ keys_without key (reverse (k ∷ up))
      by (inl e) ih =
          ap reverse (gone_key k up e) ∙ ih ∙ sym (append-nil (keys_without key (reverse up)))
          ∙ ap (λ l. keys_without key (reverse up) ++ l) (sym (gone_key k [] e)) ∙ sym whole
      by (inr ne) ih =
          ap reverse (kept_other k up ne) ∙ reverse_cons k (keys_without key up) ∙ ap (λ l. l ++ k ∷ []) ih
          ∙ ap (λ l. keys_without key (reverse up) ++ l) (sym (kept_other k [] ne)) ∙ sym whole

  -- each other key stays
  pub has-without_other : (x : ℕ) (up : List ℕ) → x ≢ key → has x up ≡ true → has x (keys_without key up) ≡ true
  has-without_other x [] ne h = h
  has-without_other x (k ∷ up) ne h = by (cases_eq key k) (has_cases x k up ((x ≡ k) ⊎ (has x (keys_without key up) ≡ true)) h (λ e. inl e) (λ m. inr (has-without_other x up ne m)))
    where
      by : (key ≡ k) ⊎ (key ≢ k) → (x ≡ k) ⊎ (has x (keys_without key up) ≡ true) → has x (keys_without key (k ∷ up)) ≡ true
      by (inl e) (inl same) = absurd (ne (same ∙ sym e))
      by (inl e) (inr m) = ap (has x) (gone_key k up e) ∙ m
      by (inr nk) (inl same) = ap (has x) (kept_other k up nk) ∙ subst (λ z. has z (k ∷ keys_without key up) ≡ true) (sym same) (has-head k (keys_without key up))
      by (inr nk) (inr m) = ap (has x) (kept_other k up nk) ∙ has-tail x k (keys_without key up) m

-- once the key's own link replaces each link to the key, each climb skips the key
pub climb_past : (p q : ℕ → Option (Option ℕ)) (key : ℕ) (top : Option ℕ) → p key ≡ Some top → (top ≡ Some key → ⊥) → ((k : ℕ) → k ≢ key → q k ≡ past_link key top (p k))
    → (at : Option ℕ) (up : List ℕ) → IsClimb p at up → IsClimb q (past key top at) (keys_without key up)
climb_past p q key top here itself links at [] h = ap (past key top) h
climb_past p q key top here itself links at (k ∷ up) h = by (cases_eq key k) (climb_past p q key top here itself links h.1.0 up h.1.1.1)
  where
    by : (key ≡ k) ⊎ (key ≢ k) → IsClimb q (past key top h.1.0) (keys_without key up) → IsClimb q (past key top at) (keys_without key (k ∷ up))
    by (inl e) ih =
        let link : Some h.1.0 ≡ Some top = sym h.1.1.0 ∙ ap p (sym e) ∙ here in
        let next : h.1.0 ≡ top = cc in
        let a : past key top at ≡ top = ap (past key top) h.0 ∙ past_key key top k e in
        let b : past key top h.1.0 ≡ top = ap (past key top) next ∙ past_unless_key key top top itself in
        subst (λ l. IsClimb q (past key top at) l) (sym (gone_key key top k up e))
        (subst (λ o. IsClimb q o (keys_without key up)) (b ∙ sym a) ih)
    by (inr ne) ih =
        let a : past key top at ≡ Some k = ap (past key top) h.0 ∙ past_other key top k ne in
        let l : q k ≡ Some (past key top h.1.0) = links k (λ e. ne (sym e)) ∙ ap (past_link key top) h.1.1.0 in
        let c : IsClimb q (past key top at) (k ∷ keys_without key up) = (a, (past key top h.1.0, (l, ih))) in
        subst (λ l. IsClimb q (past key top at) l) (sym (kept_other key top k up ne)) c

-- after `past`, a link is to m if it was to m, or to the key and the key's own link is to m
pub each_past : (key m : ℕ) (top : Option ℕ) → m ≢ key → (o : Option ℕ) → one_if (is_key m (past key top o)) ≡ one_if (is_key m o) + cond (is_key m top) (one_if (is_key key o)) 0
each_past key m top ne None = by (is_key m top)
  where
    by : (b : Bool) → 0 ≡ 0 + cond b 0 0
    by true = omega arith
    by false = omega arith
each_past key m top ne (Some k) = by (cases_eq key k)
  where
    sum : (b : Bool) → one_if b ≡ 0 + cond b 1 0
    sum true = omega arith
    sum false = omega arith

    none : (n : ℕ) (b : Bool) → n ≡ n + cond b 0 0
    none n true = omega arith
    none n false = omega arith

    by : (key ≡ k) ⊎ (key ≢ k) → one_if (is_key m (past key top (Some k))) ≡ one_if (nat_eq m k) + cond (is_key m top) (one_if (nat_eq key k)) 0
    by (inl e) =
        ap (λ o. one_if (is_key m o)) (past_key key top k e) ∙ sum (is_key m top)
        ∙ ap (λ n. n + cond (is_key m top) 1 0) (sym (ap one_if (ne_eqb m k (λ w. ne (w ∙ sym e)))))
        ∙ ap (λ b. one_if (nat_eq m k) + cond (is_key m top) (one_if b) 0) (sym (eq-eqb key k e))
    by (inr nk) =
        ap (λ o. one_if (is_key m o)) (past_other key top k nk) ∙ none (one_if (nat_eq m k)) (is_key m top)
        ∙ ap (λ b. one_if (nat_eq m k) + cond (is_key m top) (one_if b) 0) (sym (ne_eqb key k nk))

pub each_past_link : (key m : ℕ) (top : Option ℕ) → m ≢ key → (o : Option (Option ℕ)) → one_if (is_above m (past_link key top o)) ≡ one_if (is_above m o) + cond (is_key m top) (one_if (is_above key o)) 0
each_past_link key m top ne None = each_past key m top ne None
each_past_link key m top ne (Some next) = each_past key m top ne next

-- if the count of each item is such a sum, so is the count of a list
pub sum_past : {A : Type 0} (f p q : A → Bool) (b : Bool) (xs : List A) → ((x : A) → one_if (f x) ≡ one_if (p x) + cond b (one_if (q x)) 0) → count_by f xs ≡ count_by p xs + cond b (count_by q xs) 0
sum_past f p q true [] h = omega arith
sum_past f p q false [] h = omega arith
sum_past f p q true (x ∷ xs) h =
    let a = sum_by-cons (λ y. one_if (f y)) x xs in let b = sum_by-cons (λ y. one_if (p y)) x xs in let c = sum_by-cons (λ y. one_if (q y)) x xs in
    let d = h x in let e = sum_past f p q true xs h in
    omega (arith, a, b, c, d, e)
sum_past f p q false (x ∷ xs) h =
    let a = sum_by-cons (λ y. one_if (f y)) x xs in let b = sum_by-cons (λ y. one_if (p y)) x xs in
    let d = h x in let e = sum_past f p q false xs h in
    omega (arith, a, b, d, e)

-- how many items of a mapped list pass a test, counted in the list itself
pub count_map : {A B : Type 0} (p : B → Bool) (f : A → B) (xs : List A) → count_by p (map f xs) ≡ count_by (λ x. p (f x)) xs
count_map p f [] = refl
count_map p f (x ∷ xs) =
    let a = sum_by-cons (λ y. one_if (p y)) (f x) (map f xs) in let b = sum_by-cons (λ y. one_if (p (f y))) x xs in let c = count_map p f xs in
    omega (arith, a, b, c)

pub cond_add : (b : Bool) (x y : ℕ) → cond b x 0 + cond b y 0 ≡ cond b (x + y) 0
cond_add true x y = refl
cond_add false x y = omega arith

-- a list whose items are the tips, each past the key, is `past` applied to each tip
pub all_past : (key : ℕ) (top : Option ℕ) (xs ys : List (Option ℕ)) → length ys ≡ length xs → ((k : ℕ) → k < length xs → tip_at ys k ≡ past key top (tip_at xs k)) → ys ≡ map (past key top) xs
all_past key top xs ys len h =
    ext_get_or None ys (map (past key top) xs) (len ∙ sym (length-map xs (past key top)))
    (λ i lt. h i (subst (λ n. i < n) len lt) ∙ sym (map_at (past key top) xs i refl))

-- if each item passes at most one of two tests, and each that passes one of them also passes a
-- third, then the counts of the two tests add up to at most that of the third
pub sum_apart : {A : Type 0} (p q r : A → Bool) (xs : List A) → ((x : A) → one_if (p x) + one_if (q x) ≤ one_if (r x)) → count_by p xs + count_by q xs ≤ count_by r xs
sum_apart p q r [] h = omega arith
sum_apart p q r (x ∷ xs) h =
    let a = sum_by-cons (λ y. one_if (p y)) x xs in let b = sum_by-cons (λ y. one_if (q y)) x xs in let c = sum_by-cons (λ y. one_if (r y)) x xs in
    let d = h x in let e = sum_apart p q r xs h in
    omega (arith, a, b, c, d, e)
