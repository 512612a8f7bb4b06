-- Lists of tips: a tip is added at the end, or removed.
use Rattle.std.proofs.Common.{◌≡◌, ◌≢◌, ℕ, ◌+◌, ◌-◌, ◌<◌, zero, suc, List, [], ◌∷◌, ◌++◌, length, get_or, set, take, Option, refl, ◌∙◌, ap, arith, inl, inr, ◌⊎◌}
use Rattle.std.specs.List.{remove, swap_remove}
use Rattle.std.proofs.lemmas.List.{set-append_left, take_at, length-set, length_push, get_or_push}
use Rattle.lineage.specs.Lineages.{tip_at}

-- a property of each tip and of a new one holds of each tip after the new one is added
pub each_tip_pushed : (P : Option ℕ → Type 0) (tips : List (Option ℕ)) (tip : Option ℕ) → ((i : ℕ) → P (tip_at tips i)) → P tip → (i : ℕ) → P (tip_at (tips ++ tip ∷ []) i)
each_tip_pushed P [] tip h p zero = p
each_tip_pushed P [] tip h p (suc i) = h zero
each_tip_pushed P (t ∷ tips) tip h p zero = h zero
each_tip_pushed P (t ∷ tips) tip h p (suc i) = each_tip_pushed P tips tip (λ j. h (suc j)) p i

-- a property of each tip after one is added holds of each tip before
pub each_tip_before_push : (P : Option ℕ → Type 0) (tips : List (Option ℕ)) (tip : Option ℕ) → ((i : ℕ) → P (tip_at (tips ++ tip ∷ []) i)) → (i : ℕ) → P (tip_at tips i)
each_tip_before_push P [] tip h i = h (suc zero)
each_tip_before_push P (t ∷ tips) tip h zero = h zero
each_tip_before_push P (t ∷ tips) tip h (suc i) = each_tip_before_push P tips tip (λ j. h (suc j)) i

-- after a tip is added, the tip at an index is the added one, or the one that was there
pub pushed_tip_cases : (tips : List (Option ℕ)) (tip : Option ℕ) (i : ℕ) → (tip_at (tips ++ tip ∷ []) i ≡ tip) ⊎ (tip_at (tips ++ tip ∷ []) i ≡ tip_at tips i)
pushed_tip_cases [] tip zero = inl refl
pushed_tip_cases [] tip (suc i) = inr refl
pushed_tip_cases (t ∷ tips) tip zero = inr refl
pushed_tip_cases (t ∷ tips) tip (suc i) = pushed_tip_cases tips tip i

-- if each tip has a property, so has each tip that is left
pub each_tip_left : (P : Option ℕ → Type 0) (tips : List (Option ℕ)) (path : ℕ) → ((i : ℕ) → P (tip_at tips i)) → (i : ℕ) → P (tip_at (remove tips path) i)
each_tip_left P [] zero h i = h zero
each_tip_left P [] (suc path) h i = h zero
each_tip_left P (t ∷ tips) zero h i = h (suc i)
each_tip_left P (t ∷ tips) (suc path) h zero = h zero
each_tip_left P (t ∷ tips) (suc path) h (suc i) = each_tip_left P tips path (λ j. h (suc j)) i

-- each other tip is left
pub other_tip_left : (tips : List (Option ℕ)) (path i : ℕ) → i ≢ path → (j : ℕ) × (tip_at (remove tips path) j ≡ tip_at tips i)
other_tip_left [] zero i ne = (zero, refl)
other_tip_left [] (suc path) i ne = (zero, refl)
other_tip_left (t ∷ tips) zero zero ne = absurd (ne refl)
other_tip_left (t ∷ tips) zero (suc i) ne = (i, refl)
other_tip_left (t ∷ tips) (suc path) zero ne = (zero, refl)
other_tip_left (t ∷ tips) (suc path) (suc i) ne = let r = other_tip_left tips path i (λ e. ne (ap suc e)) in (suc r.0, r.1)

-- removing a tip after one more is added puts the added tip in its place
pub swap_remove-push : (tips : List (Option ℕ)) (tip d : Option ℕ) (path : ℕ) → path < length tips → swap_remove (tips ++ tip ∷ []) path d ≡ set tips path tip
swap_remove-push tips tip d path within =
    let many : length (tips ++ tip ∷ []) ≡ length tips + 1 = length_push tips tip in
    let n : length (tips ++ tip ∷ []) - 1 ≡ length tips = omega (arith, many) in
    ap (λ m. take m (set (tips ++ tip ∷ []) path (get_or (tips ++ tip ∷ []) m d))) n
    ∙ ap (λ y. take (length tips) (set (tips ++ tip ∷ []) path y)) (get_or_push tips tip d (length tips) refl)
    ∙ ap (take (length tips)) (set-append_left tips (tip ∷ []) path tip within)
    ∙ take_at (set tips path tip) (tip ∷ []) (length tips) (length-set tips path tip)
