-- The parts of a text after one more byte.
use Rattle.std.proofs.Common.{◌≡◌, ◌<◌, ℕ, suc, length, Bool, true, false, cond, List, [], ◌∷◌, ◌++◌, refl, sym, ap, ◌∙◌, arith, append_assoc, append-nil}
use Rattle.std.specs.List.{slice_split, onto_first, All}
use Rattle.std.proofs.lemmas.List.Splits.{slice_split-cons_yes, slice_split-cons_no, length-slice_split}

module _ (p : ℕ → Bool) where
  -- a text has at least one part
  split_nonempty : (xs : List ℕ) → 0 < length (slice_split p xs)
  split_nonempty xs = omega (arith, length-slice_split p xs)

  onto_first-append : (x : ℕ) (parts more : List (List ℕ)) → 0 < length parts → onto_first x (parts ++ more) ≡ onto_first x parts ++ more
  onto_first-append x [] more h = absurd (omega (arith, h))
  onto_first-append x (part ∷ parts) more h = refl

  -- a text followed by a separator has one more part, which is empty
  pub split-push_cut : (xs : List ℕ) (y : ℕ) → p y ≡ true → slice_split p (xs ++ y ∷ []) ≡ slice_split p xs ++ [] ∷ []
  split-push_cut [] y h = slice_split-cons_yes p y [] h
  split-push_cut (x ∷ xs) y h =
      ap (λ s. cond (p x) ([] ∷ s) (onto_first x s)) (split-push_cut xs y h)
      ∙ elim (p x) as (λ b. cond b ([] ∷ (slice_split p xs ++ [] ∷ [])) (onto_first x (slice_split p xs ++ [] ∷ [])) ≡ cond b ([] ∷ slice_split p xs) (onto_first x (slice_split p xs)) ++ [] ∷ []) [
        | true ↦ refl
        | false ↦ onto_first-append x (slice_split p xs) ([] ∷ []) (split_nonempty xs)
      ]

  -- the parts with one more byte at the end of the last
  abbrev onto_last : ℕ → List (List ℕ) → List (List ℕ)
  onto_last y [] = (y ∷ []) ∷ []
  onto_last y (part ∷ []) = (part ++ y ∷ []) ∷ []
  onto_last y (part ∷ next ∷ parts) = part ∷ onto_last y (next ∷ parts)

  onto_last-append : (whole : List (List ℕ)) (rest : List ℕ) (y : ℕ) → onto_last y (whole ++ rest ∷ []) ≡ whole ++ (rest ++ y ∷ []) ∷ []
  onto_last-append [] rest y = refl
  onto_last-append (part ∷ []) rest y = refl
  onto_last-append (part ∷ next ∷ parts) rest y = ap (λ ps. part ∷ ps) (onto_last-append (next ∷ parts) rest y)

  onto_last-cons : (y : ℕ) (parts : List (List ℕ)) → 0 < length parts → [] ∷ onto_last y parts ≡ onto_last y ([] ∷ parts)
  onto_last-cons y [] h = absurd (omega (arith, h))
  onto_last-cons y (part ∷ parts) h = refl

  onto_last-onto_first : (x y : ℕ) (parts : List (List ℕ)) → 0 < length parts → onto_first x (onto_last y parts) ≡ onto_last y (onto_first x parts)
  onto_last-onto_first x y [] h = absurd (omega (arith, h))
  onto_last-onto_first x y (part ∷ []) h = refl
  onto_last-onto_first x y (part ∷ next ∷ parts) h = refl

  split-push_last : (xs : List ℕ) (y : ℕ) → p y ≡ false → slice_split p (xs ++ y ∷ []) ≡ onto_last y (slice_split p xs)
  split-push_last [] y h = slice_split-cons_no p y [] h
  split-push_last (x ∷ xs) y h =
      ap (λ s. cond (p x) ([] ∷ s) (onto_first x s)) (split-push_last xs y h)
      ∙ elim (p x) as (λ b. cond b ([] ∷ onto_last y (slice_split p xs)) (onto_first x (onto_last y (slice_split p xs))) ≡ onto_last y (cond b ([] ∷ slice_split p xs) (onto_first x (slice_split p xs)))) [
        | true ↦ onto_last-cons y (slice_split p xs) (split_nonempty xs)
        | false ↦ onto_last-onto_first x y (slice_split p xs) (split_nonempty xs)
      ]

  -- a byte that isn't a separator, added to a text, is at the end of the text's last part
  pub split-push : (xs : List ℕ) (y : ℕ) (whole : List (List ℕ)) (rest : List ℕ) → p y ≡ false → slice_split p xs ≡ whole ++ rest ∷ [] → slice_split p (xs ++ y ∷ []) ≡ whole ++ (rest ++ y ∷ []) ∷ []
  split-push xs y whole rest h e = split-push_last xs y h ∙ ap (onto_last y) e ∙ onto_last-append whole rest y

  -- bytes that aren't separators, added to a text, are at the end of the text's last part
  pub split-append : (xs ys : List ℕ) (whole : List (List ℕ)) (rest : List ℕ) → All (λ y. p y ≡ false) ys → slice_split p xs ≡ whole ++ rest ∷ [] → slice_split p (xs ++ ys) ≡ whole ++ (rest ++ ys) ∷ []
  split-append xs [] whole rest h e = ap (slice_split p) (append-nil xs) ∙ e ∙ ap (λ r. whole ++ r ∷ []) (sym (append-nil rest))
  split-append xs (y ∷ ys) whole rest h e =
      ap (slice_split p) (sym (append_assoc xs (y ∷ []) ys))
      ∙ split-append (xs ++ y ∷ []) ys whole (rest ++ y ∷ []) (λ n d lt. h (suc n) d (omega (arith, lt))) (split-push xs y whole rest (h 0 0 (omega arith)) e)
      ∙ ap (λ r. whole ++ r ∷ []) (append_assoc rest (y ∷ []) ys)
