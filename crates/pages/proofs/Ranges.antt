-- Items of a range or a list, one after another.
use Rattle.std.proofs.Common.{◌≡◌, ℕ, ◌+◌, ◌<◌, ◌≤◌, List, [], ◌∷◌, ◌++◌, length, get_or, take, map, sym, ap, ◌∙◌, arith}
use Rattle.std.specs.List.{range_with_len}
use Rattle.std.proofs.lemmas.List.{map_more, take_all}
use Rattle.std.proofs.lemmas.List.FromFn.{map-range_with_len_more}

-- the images of the numbers below n, and then that of n, are those of the numbers below n + 1
pub mapped_more : {A : Type 0} (f : ℕ → A) (n : ℕ) (old new : List A) (here : A) → old ≡ map f (range_with_len 0 n) → new ≡ old ++ here ∷ [] → here ≡ f n
    → new ≡ map f (range_with_len 0 (n + 1))
mapped_more f n old new here so_far h e =
    h ∙ ap (λ l. l ++ here ∷ []) so_far ∙ ap (λ x. map f (range_with_len 0 n) ++ x ∷ []) e ∙ sym (map-range_with_len_more f 0 n n (omega arith))

-- the images of a list's first i items, and then that of item i, are those of the first i + 1;
-- `taken_all`: if the list has no more than i items, those of the first i are those of all
pub taken_more : {X A : Type 0} (f : X → A) (xs : List X) (i : ℕ) (d : X) (old new : List A) → i < length xs
    → old ≡ map f (take i xs) → new ≡ old ++ f (get_or xs i d) ∷ [] → new ≡ map f (take (i + 1) xs)
taken_more f xs i d old new here so_far h =
    h ∙ ap (λ l. l ++ f (get_or xs i d) ∷ []) so_far ∙ sym (map_more f xs i d here)

pub taken_all : {X A : Type 0} (f : X → A) (xs : List X) (i : ℕ) (all : List A) → length xs ≤ i
    → all ≡ map f (take i xs) → all ≡ map f xs
taken_all f xs i all done so_far = so_far ∙ ap (map f) (take_all i xs done)
