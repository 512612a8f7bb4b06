-- Items of lists: one more at the end, and one that passes a test.
use Rattle.std.proofs.Common.{◌≡◌, ℕ, zero, suc, ◌⊎◌, inl, inr, List, [], ◌∷◌, ◌++◌, Some, length, slice_get, Bool, true, false, ◌||◌, refl, sym, ap, ◌∙◌}
use Rattle.std.specs.List.{list_any}

module _ {X : Type 0} where
  -- an item stays
  pub kept_by_push : (xs : List X) (y : X) (i : ℕ) (x : X) → slice_get xs i ≡ Some x → slice_get (xs ++ y ∷ []) i ≡ Some x
  kept_by_push [] y i x h = cc
  kept_by_push (z ∷ zs) y zero x h = h
  kept_by_push (z ∷ zs) y (suc i) x h = kept_by_push zs y i x h

  -- the new item is last
  pub pushed_last : (xs : List X) (y : X) → slice_get (xs ++ y ∷ []) (length xs) ≡ Some y
  pushed_last [] y = refl
  pushed_last (z ∷ zs) y = pushed_last zs y

  -- each item is an earlier one, or the new one
  pub old_or_new : (xs : List X) (y : X) (i : ℕ) (x : X) → slice_get (xs ++ y ∷ []) i ≡ Some x
      → (slice_get xs i ≡ Some x) ⊎ ((i ≡ length xs) × (x ≡ y))
  old_or_new [] y zero x h = let e : x ≡ y = cc in inr (refl, e)
  old_or_new [] y (suc i) x h = cc
  old_or_new (z ∷ zs) y zero x h = inl h
  old_or_new (z ∷ zs) y (suc i) x h = elim (old_or_new zs y i x h) [ inl p ↦ inl p | inr q ↦ inr (ap suc q.0, q.1) ]

  -- if some item passes a test, there is an index whose item does
  pub passing_place : (test : X → Bool) (xs : List X) → list_any test xs ≡ true → (i : ℕ) × ((x : X) × ((slice_get xs i ≡ Some x) × (test x ≡ true)))
  passing_place test [] h = cc
  passing_place test (x ∷ xs) h = by (test x) refl (λ e. passing_place test xs (sym (ap (λ c. c || list_any test xs) e) ∙ h))
    where
      by : (b : Bool) → test x ≡ b → (test x ≡ false → (i : ℕ) × ((y : X) × ((slice_get xs i ≡ Some y) × (test y ≡ true))))
          → (i : ℕ) × ((y : X) × ((slice_get (x ∷ xs) i ≡ Some y) × (test y ≡ true)))
      by true e later = (0, (x, (refl, e)))
      by false e later = let l = later e in (suc l.0, l.1)
