-- Items of a list that another list follows.
use Rattle.std.proofs.Common.{◌≡◌, ℕ, zero, suc, List, [], ◌∷◌, ◌++◌, Some, slice_get}
use Rattle.std.specs.List.{All}
use Rattle.std.proofs.lemmas.List.Elements.{All-nil, All-cons, All-head, All-tail}

-- a property of each item of two lists
module _ {X : Type 0} (Q : X → Type 0) where
  pub all_left : (xs ys : List X) → All Q (xs ++ ys) → All Q xs
  all_left [] ys all = All-nil Q
  all_left (x ∷ xs) ys all = All-cons Q x xs (All-head Q x (xs ++ ys) all) (all_left xs ys (All-tail Q x (xs ++ ys) all))

  pub all_right : (xs ys : List X) → All Q (xs ++ ys) → All Q ys
  all_right [] ys all = all
  all_right (x ∷ xs) ys all = all_right xs ys (All-tail Q x (xs ++ ys) all)

-- a list's items stay if more follow
pub slice_get-more : {X : Type 0} (xs ys : List X) (i : ℕ) (x : X) → slice_get xs i ≡ Some x → slice_get (xs ++ ys) i ≡ Some x
slice_get-more [] ys i x e = cc
slice_get-more (y ∷ xs) ys zero x e = e
slice_get-more (y ∷ xs) ys (suc i) x e = slice_get-more xs ys i x e
