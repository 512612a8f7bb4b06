-- The index at which a search of a list finds an item that passes a test.
use Rattle.std.proofs.Common.{◌≡◌, ℕ, suc, ◌+◌, ◌<◌, ◌≤◌, Bool, true, false, not, nat_lt, cond, List, [], ◌∷◌, ◌++◌, length, Some, None, refl, sym, ap, subst, ◌∙◌, arith}
use Rattle.std.specs.List.{position, position_or_len}
use Rattle.std.proofs.lemmas.Bool.Decides.{nat_tests}
use Rattle.std.proofs.lemmas.List.Folds.{prefix_len-append}

module _ {X : Type 0} (p : X → Bool) where
  pub position_or_len-short : (xs : List X) → position_or_len p xs ≤ length xs
  position_or_len-short [] = omega arith
  position_or_len-short (x ∷ xs) = by (p x) (position_or_len-short xs)
    where
      by : (b : Bool) → position_or_len p xs ≤ length xs → cond (not b) (1 + position_or_len p xs) 0 ≤ suc (length xs)
      by true h = omega arith
      by false h = omega arith

  pub position_or_len-some : (xs : List X) (o : ℕ) → position p xs ≡ Some o → (position_or_len p xs ≡ o) × (o < length xs)
  position_or_len-some xs o e = by (nat_lt (position_or_len p xs) (length xs)) refl
    where
      by : (b : Bool) → nat_lt (position_or_len p xs) (length xs) ≡ b → (position_or_len p xs ≡ o) × (o < length xs)
      by true h =
          let some : Some (position_or_len p xs) ≡ Some o = sym (ap (λ b. cond b (Some (position_or_len p xs)) None) h) ∙ e in
          let same : position_or_len p xs ≡ o = cc in
          let inside : position_or_len p xs < length xs = grind (arith, nat_tests) in
          (same, subst (λ n. n < length xs) same inside)
      by false h = let none : None ≡ Some o = sym (ap (λ b. cond b (Some (position_or_len p xs)) None) h) ∙ e in absurd (cc)

  pub position-within : (xs : List X) (o : ℕ) → Some o ≡ position p xs → o < length xs
  position-within xs o e = (position_or_len-some xs o (sym e)).1

  pub position_or_len-none : (xs : List X) → position p xs ≡ None → position_or_len p xs ≡ length xs
  position_or_len-none xs e = by (nat_lt (position_or_len p xs) (length xs)) refl
    where
      by : (b : Bool) → nat_lt (position_or_len p xs) (length xs) ≡ b → position_or_len p xs ≡ length xs
      by true h = let some : Some (position_or_len p xs) ≡ None = sym (ap (λ b. cond b (Some (position_or_len p xs)) None) h) ∙ e in absurd (cc)
      by false h =
          let past : length xs ≤ position_or_len p xs = grind (arith, nat_tests) in
          omega (arith, position_or_len-short xs)

  pub position-some : (xs : List X) (o : ℕ) → position_or_len p xs ≡ o → o < length xs → position p xs ≡ Some o
  position-some xs o e h =
      let inside : nat_lt (position_or_len p xs) (length xs) ≡ true = grind (arith, nat_tests) in
      ap (λ b. cond b (Some (position_or_len p xs)) None) inside ∙ ap Some e

  pub position-none : (xs : List X) → position_or_len p xs ≡ length xs → position p xs ≡ None
  position-none xs e =
      let outside : nat_lt (position_or_len p xs) (length xs) ≡ false = grind (arith, nat_tests) in
      ap (λ b. cond b (Some (position_or_len p xs)) None) outside

  pub position_or_len-left : (xs ys : List X) (o : ℕ) → position_or_len p xs ≡ o → o < length xs → position_or_len p (xs ++ ys) ≡ o
  position_or_len-left xs ys o e h = let parts = prefix_len-append (λ x. not (p x)) xs ys in grind (arith, nat_tests)

  pub position_or_len-right : (xs ys : List X) → position_or_len p xs ≡ length xs → position_or_len p (xs ++ ys) ≡ length xs + position_or_len p ys
  position_or_len-right xs ys e = let parts = prefix_len-append (λ x. not (p x)) xs ys in grind (arith, nat_tests)
