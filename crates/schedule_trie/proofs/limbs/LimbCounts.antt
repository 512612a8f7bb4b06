-- The number of own cells of limbs.
use Rattle.std.proofs.Common.{◌≡◌, ℕ, zero, suc, ◌+◌, ◌-◌, ◌<◌, ◌≤◌, true, false, nat_lt, List, [], ◌∷◌, ◌++◌, length, take, get_or, sym, ap, ◌∙◌, arith}
use Rattle.std.proofs.lemmas.Bool.Decides.{nat_tests}
use Rattle.std.proofs.lemmas.List.{take_more, take_all}
use Rattle.branch_terms.specs.declared.limb.Limb.{Limb}
use Rattle.branch_terms.specs.Limbs.{own_cell_count}

pub own_cell_count-append : (xs ys : List Limb) → own_cell_count (xs ++ ys) ≡ own_cell_count xs + own_cell_count ys
own_cell_count-append [] ys = omega arith
own_cell_count-append (x ∷ xs) ys = let r = own_cell_count-append xs ys in omega arith

pub own_cell_count-take-le : (i : ℕ) (ls : List Limb) → own_cell_count (take i ls) ≤ own_cell_count ls
own_cell_count-take-le zero ls = omega arith
own_cell_count-take-le (suc i) [] = omega arith
own_cell_count-take-le (suc i) (l ∷ ls) = let r = own_cell_count-take-le i ls in omega arith

module _ (ls : List Limb) (i : ℕ) (l : Limb) (less : i < length ls) (at : get_or ls i l ≡ l) where
  pub own_cell_count-take_more : own_cell_count (take (i + 1) ls) ≡ own_cell_count (take i ls) + length l.steps
  own_cell_count-take_more =
      let more : take (i + 1) ls ≡ take i ls ++ l ∷ [] = take_more ls i l less ∙ ap (λ z. take i ls ++ z ∷ []) at in
      let sum = own_cell_count-append (take i ls) (l ∷ []) in
      let whole = ap own_cell_count more in omega arith

  -- the next limb has more steps than there is room for; or there is room, and less is left
  pub too_many_here : (room most : ℕ) → own_cell_count (take i ls) + room ≡ most → room < length l.steps → true ≡ nat_lt most (own_cell_count ls)
  too_many_here room most so_far few =
      let next = own_cell_count-take_more in
      let first = own_cell_count-take-le (i + 1) ls in
      let more : most < own_cell_count ls = omega arith in sym (grind (arith, nat_tests))

  pub room_left : (room most : ℕ) → own_cell_count (take i ls) + room ≡ most → length l.steps ≤ room → own_cell_count (take (i + 1) ls) + (room - length l.steps) ≡ most
  room_left room most so_far few = let next = own_cell_count-take_more in omega arith

pub not_too_many : (ls : List Limb) (i room most : ℕ) → length ls ≤ i → own_cell_count (take i ls) + room ≡ most → false ≡ nat_lt most (own_cell_count ls)
not_too_many ls i room most end so_far =
    let all = ap own_cell_count (take_all i ls end) in
    let few : own_cell_count ls ≤ most = omega arith in sym (grind (arith, nat_tests))
