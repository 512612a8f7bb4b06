-- A text is cut at each byte that passes a test: its parts, and how many lines it has.
use Rattle.std.specs.Option.{option_map}
use Rattle.std.proofs.Common.{Bor, Option, Some, None, not, is_some, ◌==◌, ◌≡◌, ℕ, ◌+◌, ◌<◌, ◌≤◌, Bool, true, false, cond, List, [], ◌∷◌, length, take, drop, refl, sym, ap, ◌∙◌, arith, ◌^◌}
use Rattle.std.specs.List.{slice_split, onto_first, position, position_or_len}
use Rattle.std.proofs.lemmas.Grind.{common_steps}
use Rattle.std.proofs.lemmas.List.Sums.{fails_before_first, count_by-le-length}
use Rattle.std.proofs.lemmas.List.Splits.{slice_split_none, slice_split_first, length-slice_split}
use Rattle.words.specs.Words.{parts_left, is_end, lines}

module _ (p : ℕ → Bool) where
  -- a text in which no byte passes the test is one part
  pub split_whole : (xs : List ℕ) → position p xs ≡ None → slice_split p xs ≡ xs ∷ []
  split_whole xs h =
      let all : length xs ≤ position_or_len p xs = grind (arith, common_steps) in
      slice_split_none p xs (λ (m : ℕ) (d : ℕ) (lt : m < length xs). fails_before_first p xs m d (omega arith))

  -- the first part ends at the first byte that passes the test
  pub split_first : (xs : List ℕ) (k : ℕ) → position p xs ≡ Some k → slice_split p xs ≡ take k xs ∷ slice_split p (drop (k + 1) xs)
  split_first xs k h =
      let at : position_or_len p xs ≡ k = grind (arith, common_steps) in
      let inside : k < length xs = grind (arith, common_steps) in
      slice_split_first p xs 0 (omega arith) ∙ ap (λ n. take n xs ∷ slice_split p (drop (n + 1) xs)) at

  -- there is always a part
  pub onto_first_nonempty : (x : ℕ) (parts : List (List ℕ)) → is_end (onto_first x parts) ≡ false
  onto_first_nonempty x [] = refl
  onto_first_nonempty x (part ∷ parts) = refl

  pub split_nonempty : (xs : List ℕ) → is_end (slice_split p xs) ≡ false
  split_nonempty [] = refl
  split_nonempty (x ∷ xs) = elim (p x) as (λ b. is_end (cond b ([] ∷ slice_split p xs) (onto_first x (slice_split p xs))) ≡ false) [
    | true ↦ refl
    | false ↦ onto_first_nonempty x (slice_split p xs)
  ]

-- no part is left exactly if no text is left
pub is_end-parts_left : (c : ℕ) (text : Option (Bor (List ℕ))) (none : Bool) → is_some text ≡ not none → none ≡ is_end (parts_left c (option_map (λ t. t.now) text))
is_end-parts_left c None true e = refl
is_end-parts_left c None false e = cc
is_end-parts_left c (Some text) true e = cc
is_end-parts_left c (Some text) false e = sym (split_nonempty (λ b. b == c) text.now)

-- fewer than 2^63 bytes have at most 2^63 lines
pub few_lines : (bytes : List ℕ) (ls : List (List ℕ)) → ls ≡ lines bytes → length bytes < 2 ^ 63 → length ls ≤ 2 ^ 63
few_lines bytes ls e few = omega (arith, ap length e, length-slice_split (λ b. b == 10) bytes, count_by-le-length (λ b. b == 10) bytes)
