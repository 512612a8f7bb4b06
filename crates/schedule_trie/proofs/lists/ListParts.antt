-- Lists of any items: an item at an index, the items before it, and those after it.
use Rattle.std.proofs.Common.{◌≡◌, ℕ, zero, suc, ◌+◌, ◌-◌, ◌<◌, List, [], ◌∷◌, ◌++◌, length, take, drop, get_or, slice_get, Some, refl, sym, ap, ◌∙◌, arith}
use Rattle.std.proofs.lemmas.List.{length-drop}
use Rattle.std.proofs.Math.Seq.{take-length}

-- the first `length xs - n` items of `drop n xs` are all of them
pub take_rest : {X : Type 0} (n : ℕ) (xs : List X) → take (length xs - n) (drop n xs) ≡ drop n xs
take_rest n xs = ap (λ k. take k (drop n xs)) (sym (length-drop n xs)) ∙ take-length (drop n xs)

-- taking one more item adds the item at that index
pub take-suc_some : {X : Type 0} (xs : List X) (n : ℕ) (x : X) → slice_get xs n ≡ Some x → take (suc n) xs ≡ take n xs ++ x ∷ []
take-suc_some [] n x e = absurd (cc)
take-suc_some (y ∷ xs) zero x e = let same : y ≡ x = cc in ap (λ z. z ∷ []) same
take-suc_some (y ∷ xs) (suc n) x e = ap (λ l. y ∷ l) (take-suc_some xs n x e)

-- the same, with `i + 1` for `suc i`
pub taken_next : {X : Type 0} (xs : List X) (i : ℕ) (x : X) → slice_get xs i ≡ Some x → take (i + 1) xs ≡ take i xs ++ x ∷ []
taken_next xs i x e =
    let next : i + 1 ≡ suc i = omega arith in
    ap (λ n. take n xs) next ∙ take-suc_some xs i x e

-- the item at an index doesn't depend on the default, if the list has one there
pub get_or_own : {X : Type 0} (xs : List X) (i : ℕ) (d : X) → i < length xs → get_or xs i (get_or xs i d) ≡ get_or xs i d
get_or_own [] i d h = absurd (omega arith)
get_or_own (x ∷ xs) zero d h = refl
get_or_own (x ∷ xs) (suc i) d h = get_or_own xs i d (omega arith)

-- a list is the items before an index, the item there, and the rest
pub split_at : {X : Type 0} (xs : List X) (i : ℕ) (d : X) → i < length xs → get_or xs i d ≡ d → (back : List X) × (xs ≡ take i xs ++ d ∷ back)
split_at [] i d less e = absurd (omega arith)
split_at (x ∷ xs) zero d less e = (xs, ap (λ z. z ∷ xs) e)
split_at (x ∷ xs) (suc i) d less e = let p = split_at xs i d (omega arith) e in (p.0, ap (λ l. x ∷ l) p.1)
