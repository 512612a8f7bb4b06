-- The texts of a list's items, pushed one after another.
use Rattle.std.proofs.Common.{◌≡◌, ◌∙◌, ℕ, ◌+◌, ◌<◌, ◌≤◌, List, ◌++◌, length, get_or, take, sym, ap}
use Rattle.std.specs.List.{flat_map}
use Rattle.std.proofs.lemmas.List.{flat_map_more, take_all, take_more}

module _ {X : Type 0} (text : X → List ℕ) (xs : List X) (i : ℕ) where
  -- the texts of the first i items, and then item i's text, are those of the first i + 1 items
  pub texts_more : (d : X) (out now new : List ℕ) → i < length xs → now ≡ out ++ flat_map text (take i xs) → new ≡ now ++ text (get_or xs i d)
      → new ≡ out ++ flat_map text (take (i + 1) xs)
  texts_more d out now new here so_far h =
      h ∙ ap (λ l. l ++ text (get_or xs i d)) so_far ∙ flat_map_more text out (take i xs) (get_or xs i d)
      ∙ ap (λ l. out ++ flat_map text l) (sym (take_more xs i d here))

  -- if there are no more than i items, the texts of the first i are those of all
  pub texts_all : (out now : List ℕ) → length xs ≤ i → now ≡ out ++ flat_map text (take i xs) → now ≡ out ++ flat_map text xs
  texts_all out now done so_far = so_far ∙ ap (λ l. out ++ flat_map text l) (take_all i xs done)
