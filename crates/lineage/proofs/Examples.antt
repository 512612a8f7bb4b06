-- Definitions that claim that something exists: an example of each, and a near miss.
use Rattle.std.proofs.Common.{ℕ, zero, suc, ◌≡◌, ◌≢◌, true, false, true≢false, List, [], ◌∷◌, ◌++◌, Option, Some, None, IsSome, unwrap_or, slice_index_or, drop, ap, refl, sym, ◌∙◌, arith}
use Rattle.lineage.specs.Family.{Family, item_at, path_in, has, last_of, IsForked, IsForkedAbove, IsExchanged, EndsAlone, IsFamily}
use Rattle.lineage.proofs.KeyLists.{has_cases}

abbrev family : List (Option ℕ) → List (List ℕ) → Family ℕ
family items paths = record { items = items; paths = paths }

-- item 7 at key 0, on one path
abbrev one_key : Family ℕ
one_key = family (Some 7 ∷ []) ((0 ∷ []) ∷ [])

-- items 7 and 8 at keys 0 and 1, and a path that has both
abbrev two_keys : Family ℕ
two_keys = family (Some 7 ∷ Some 8 ∷ []) ((0 ∷ 1 ∷ []) ∷ [])

-- the same, with one more path that ends at key 0
abbrev forked : Family ℕ
forked = family (Some 7 ∷ Some 8 ∷ []) ((0 ∷ 1 ∷ []) ∷ (0 ∷ []) ∷ [])

not_none : (x : ℕ) → Some x ≡ None → ⊥
not_none x e = cc

not_in_empty : (front back : List ℕ) (k : ℕ) → [] ≡ front ++ k ∷ back → ⊥
not_in_empty [] back k e = cc
not_in_empty (x ∷ front) back k e = cc

first_of_one : (front back : List ℕ) (k : ℕ) → 0 ∷ [] ≡ front ++ k ∷ back → front ≡ []
first_of_one [] back k e = refl
first_of_one (x ∷ front) back k e = absurd (not_in_empty front back k (ap (drop 1) e))

down_to_0 : (front back : List ℕ) → 0 ∷ 1 ∷ [] ≡ front ++ 0 ∷ back → front ≡ []
down_to_0 [] back e = refl
down_to_0 (x ∷ []) back e = let h : 1 ≡ 0 = ap (λ l. slice_index_or l 1 0) e in absurd (omega (arith, h))
down_to_0 (x ∷ y ∷ front) back e = absurd (not_in_empty front back 0 (ap (drop 2) e))

-- a path forked at key 0 of the path 0, 1 has key 0 alone
IsForked-holds : IsForked two_keys forked (Some 0)
IsForked-holds = record { path = 0 ∷ []; paths = refl; last = refl; shared = shared; items = refl }
  where
    shared : (k i : ℕ) (front back : List ℕ) → Some 0 ≡ Some k → path_in two_keys i ≡ front ++ k ∷ back → 0 ∷ [] ≡ front ++ k ∷ []
    shared k zero front back same e =
        let zero_is : 0 ≡ k = ap (λ o. unwrap_or o 0) same in
        ap (λ k. k ∷ []) zero_is ∙ sym (ap (λ front. front ++ k ∷ []) (down_to_0 front back (e ∙ ap (λ k. front ++ k ∷ back) (sym zero_is))))
    shared k (suc i) front back same e = absurd (not_in_empty front back k e)

-- a path that ends at key 0 was not forked at key 1
IsForked-fails : IsForked two_keys forked (Some 1) → ⊥
IsForked-fails h =
    let path : 0 ∷ [] ≡ h.path = ap (λ paths. slice_index_or paths 1 []) h.paths in
    let last : 0 ≡ 1 = ap (λ o. unwrap_or o 0) (ap last_of path ∙ h.last) in omega (arith, last)

-- key 1 is right above key 0 in the one path, and the new path ends with key 1
IsForkedAbove-holds : IsForkedAbove one_key (family (Some 7 ∷ Some 8 ∷ []) ((1 ∷ 0 ∷ []) ∷ (1 ∷ []) ∷ [])) 0 1 8
IsForkedAbove-holds =
    record { path = 1 ∷ []; paths = refl; shared = shared; added = record { was_vacant = refl; here = refl; others = others } }
  where
    shared : (i : ℕ) (front back : List ℕ) → path_in one_key i ≡ front ++ 0 ∷ back → 1 ∷ [] ≡ front ++ 1 ∷ []
    shared zero front back e = sym (ap (λ front. front ++ 1 ∷ []) (first_of_one front back 0 e))
    shared (suc i) front back e = absurd (not_in_empty front back 0 e)

    others : (k : ℕ) → k ≢ 1 → item_at two_keys k ≡ item_at one_key k
    others zero other = refl
    others (suc zero) other = absurd (other refl)
    others (suc (suc k)) other = refl

-- the new path ends with key 0, and not with the new key
IsForkedAbove-fails : IsForkedAbove one_key (family (Some 7 ∷ Some 8 ∷ []) ((1 ∷ 0 ∷ []) ∷ (0 ∷ []) ∷ [])) 0 1 8 → ⊥
IsForkedAbove-fails h =
    let path : 0 ∷ [] ≡ h.path = ap (λ paths. slice_index_or paths 1 []) h.paths in
    let same : 0 ≡ 1 = ap (λ keys. slice_index_or keys 0 0) (path ∙ h.shared 0 [] [] refl) in omega (arith, same)

-- the path has item 9 at the new key 1 instead of item 7 at key 0, which is now vacant
IsExchanged-holds : IsExchanged one_key (family (None ∷ Some 9 ∷ []) ((1 ∷ []) ∷ [])) 0 (9 ∷ [])
IsExchanged-holds = record { keys = 1 ∷ []; paths = refl; items_are = refl; fresh = fresh; kept = kept; gone = gone }
  where
    new : Family ℕ
    new = family (None ∷ Some 9 ∷ []) ((1 ∷ []) ∷ [])

    fresh : (k : ℕ) → has k (1 ∷ []) ≡ true → item_at one_key k ≡ None
    fresh zero h = absurd (true≢false (sym h))
    fresh (suc k) h = refl

    kept : (i k : ℕ) → has k (path_in new i) ≡ true → has k (1 ∷ []) ≡ false → item_at new k ≡ item_at one_key k
    kept zero k here other = absurd (true≢false (sym here ∙ other))
    kept (suc i) k here other = absurd (true≢false (sym here))

    gone : (k : ℕ) → ((i : ℕ) → has k (path_in new i) ≡ false) → item_at new k ≡ None
    gone zero h = refl
    gone (suc zero) h = absurd (true≢false (h 0))
    gone (suc (suc k)) h = refl

-- item 9 is at key 0, which had an item
IsExchanged-fails : IsExchanged one_key (family (Some 9 ∷ []) ((0 ∷ []) ∷ [])) 0 (9 ∷ []) → ⊥
IsExchanged-fails h =
    let keys : 0 ∷ [] ≡ h.keys = ap (λ paths. slice_index_or paths 0 []) h.paths in not_none 7 (h.fresh 0 (ap (has 0) (sym keys)))

-- of the paths 0, 1 and 0, the first ends with a key that the other doesn't have
EndsAlone-holds : EndsAlone forked 0
EndsAlone-holds = record { key = 1; last = refl; own = own }
  where
    own : (j : ℕ) → j ≢ 0 → has 1 (path_in forked j) ≡ false
    own zero other = absurd (other refl)
    own (suc zero) other = refl
    own (suc (suc j)) other = refl

-- of these paths, the second ends with a key that the first has too
EndsAlone-fails : EndsAlone forked 1 → ⊥
EndsAlone-fails h =
    let key : 0 ≡ h.key = ap (λ o. unwrap_or o 0) h.last in
    true≢false (ap (λ k. has k (0 ∷ 1 ∷ [])) key ∙ h.own 0 (λ e. omega (arith, e)))

-- one item, whose key is on the one path
IsFamily-holds : IsFamily one_key
IsFamily-holds = record { held = held; live = live; shared = shared }
  where
    held : (i k : ℕ) → has k (path_in one_key i) ≡ true → IsSome (item_at one_key k)
    held zero zero h = refl
    held zero (suc k) h = absurd (has_cases (suc k) 0 [] ⊥ h (λ e. omega (arith, e)) (λ e. true≢false (sym e)))
    held (suc i) k h = absurd (true≢false (sym h))

    live : (k : ℕ) → IsSome (item_at one_key k) → (i : ℕ) × (has k (path_in one_key i) ≡ true)
    live zero h = (0, refl)
    live (suc k) h = absurd (true≢false (sym h))

    first : (i k : ℕ) (front back : List ℕ) → path_in one_key i ≡ front ++ k ∷ back → front ≡ []
    first zero k front back e = first_of_one front back k e
    first (suc i) k front back e = absurd (not_in_empty front back k e)

    shared : (i j k : ℕ) (front back front2 back2 : List ℕ) → path_in one_key i ≡ front ++ k ∷ back → path_in one_key j ≡ front2 ++ k ∷ back2 → front ≡ front2
    shared i j k front back front2 back2 e f = first i k front back e ∙ sym (first j k front2 back2 f)

-- an item at key 1, which is on no path
IsFamily-fails : IsFamily (family (Some 7 ∷ Some 8 ∷ []) ((0 ∷ []) ∷ [])) → ⊥
IsFamily-fails h = none (h.live 1 refl).0 (h.live 1 refl).1
  where
    none : (i : ℕ) → has 1 (path_in one_key i) ≡ true → ⊥
    none zero e = true≢false (sym e)
    none (suc i) e = true≢false (sym e)
