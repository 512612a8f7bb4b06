-- Climbs that pass a key.
use Rattle.std.proofs.Common.{◌≡◌, ℕ, true, List, ◌∷◌, ◌++◌, length, Option, Some, sym, ◌∙◌, ap, subst, arith, length-append}
use Rattle.lineage.specs.Family.{has}
use Rattle.lineage.specs.Climbs.{IsClimb}
use Rattle.lineage.proofs.KeyLists.{has-tail, IsOnPath-from_has, has-right}
use Rattle.lineage.proofs.Climbs.{climb_from, climb_unique}

-- the climb from a key, and another key j that links to it
module _ (p : ℕ → Option (Option ℕ)) (key : ℕ) (rest : List ℕ) (whole : IsClimb p (Some key) (key ∷ rest)) (j : ℕ) (link : p j ≡ Some (Some key)) where
  back_is_climb : (at : Option ℕ) (front back : List ℕ) → IsClimb p at (front ++ j ∷ back) → back ≡ key ∷ rest
  back_is_climb at front back h =
      let c = climb_from p at front j back h in
      let links : Some c.1.0 ≡ Some (Some key) = sym c.1.1.0 ∙ link in
      let next : c.1.0 ≡ Some key = cc in
      climb_unique p (Some key) back (key ∷ rest) (subst (λ o. IsClimb p o back) next c.1.1.1) whole

  -- a climb that has j has the key and all keys above it
  pub climb_on : (at : Option ℕ) (up : List ℕ) → IsClimb p at up → has j up ≡ true → (k : ℕ) → has k (key ∷ rest) ≡ true → has k up ≡ true
  climb_on at up h m k on =
      let w = IsOnPath-from_has j up m in
      let back = back_is_climb at w.front w.back (subst (IsClimb p at) w.is h) in
      subst (λ u. has k u ≡ true) (sym w.is) (has-right k w.front (j ∷ w.back) (has-tail k j w.back (subst (λ b. has k b ≡ true) (sym back) on)))

  -- j is neither the key nor above it
  pub not_above : has j (key ∷ rest) ≡ true → ⊥
  not_above m =
      let w = IsOnPath-from_has j (key ∷ rest) m in
      let back = back_is_climb (Some key) w.front w.back (subst (IsClimb p (Some key)) w.is whole) in
      let a = ap length w.is in let b = ap length back in let d = length-append w.front (j ∷ w.back) in
      omega (arith, a, b, d)
