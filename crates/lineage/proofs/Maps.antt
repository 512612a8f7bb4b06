-- `map` of a list: of a mapped list, of a list without an item, at an index, and by functions that
-- agree.
use Rattle.std.proofs.Common.{◌≡◌, ℕ, zero, suc, true, List, [], ◌∷◌, map, get_or, Option, None, refl, sym, ◌∙◌, ap}
use Rattle.std.specs.List.{remove}
use Rattle.lineage.specs.Family.{has}
use Rattle.lineage.specs.Lineages.{tip_at}
use Rattle.lineage.proofs.KeyLists.{has-head, has-tail}

pub map-map : {A B C : Type 0} (f : A → B) (g : B → C) (xs : List A) → map g (map f xs) ≡ map (λ x. g (f x)) xs
map-map f g [] = refl
map-map f g (x ∷ xs) = ap (λ l. g (f x) ∷ l) (map-map f g xs)

pub map-remove : {A B : Type 0} (f : A → B) (xs : List A) (i : ℕ) → map f (remove xs i) ≡ remove (map f xs) i
map-remove f [] zero = refl
map-remove f [] (suc i) = refl
map-remove f (x ∷ xs) zero = refl
map-remove f (x ∷ xs) (suc i) = ap (λ l. f x ∷ l) (map-remove f xs i)

pub map_at : {A B : Type 0} (f : Option A → Option B) (xs : List (Option A)) (i : ℕ) → f None ≡ None → get_or (map f xs) i None ≡ f (get_or xs i None)
map_at f [] i h = sym h
map_at f (x ∷ xs) zero h = refl
map_at f (x ∷ xs) (suc i) h = map_at f xs i h

-- functions that agree on each key of a list map the list to the same values
pub map_on : {Y : Type 0} (f g : ℕ → Y) (keys : List ℕ) → ((k : ℕ) → has k keys ≡ true → f k ≡ g k) → map f keys ≡ map g keys
map_on f g [] h = refl
map_on f g (k ∷ keys) h =
    ap (λ y. y ∷ map f keys) (h k (has-head k keys)) ∙ ap (λ l. g k ∷ l) (map_on f g keys (λ j m. h j (tail j m)))
  where
    tail : (j : ℕ) → has j keys ≡ true → has j (k ∷ keys) ≡ true
    tail j m = has-tail j k keys m

-- functions that agree on each tip give the same list of values
pub map_on_tips : {Y : Type 0} (f g : Option ℕ → Y) (tips : List (Option ℕ)) → ((i : ℕ) → f (tip_at tips i) ≡ g (tip_at tips i)) → map f tips ≡ map g tips
map_on_tips f g [] h = refl
map_on_tips f g (t ∷ tips) h =
    let first : f t ≡ g t = h zero in
    ap (λ y. y ∷ map f tips) first ∙ ap (λ l. g t ∷ l) (map_on_tips f g tips (λ i. h (suc i)))
