-- Climbs: at most one begins at a key, no key is twice in it, and it is kept if its links are.
use Rattle.std.proofs.Common.{◌≡◌, ℕ, ◌<◌, ◌≤◌, zero, suc, true, false, eqb, List, [], ◌∷◌, ◌++◌, length, reverse, Option, Some, None, refl, sym, ◌∙◌, ap, subst, arith, length-append}
use Rattle.std.specs.List.{IsDistinct}
use Rattle.std.proofs.lemmas.Map.Keys.{IsDistinct-cons}
use Rattle.std.proofs.lemmas.Map.Steps.{length-le_from_distinct_below}
use Rattle.lineage.specs.Family.{has, last_of}
use Rattle.lineage.specs.Climbs.{IsClimb, climb}
use Rattle.lineage.proofs.KeyLists.{has_cases, has-head, has-tail, IsOnPath-from_has, has_not_from, has_from_any, AllByRecursion-from_has, reverse_cons, last_from-push}

module _ (p : ℕ → Option (Option ℕ)) where
  climb_none : (n : ℕ) → climb p n None ≡ []
  climb_none zero = refl
  climb_none (suc n) = refl

  climb_some : (n k : ℕ) (next : Option ℕ) → p k ≡ Some next → climb p (suc n) (Some k) ≡ k ∷ climb p n next
  climb_some n k next e = rw (e, climb) refl

  -- with enough steps, `climb` gives the keys of the climb
  pub climb_is : (n : ℕ) (at : Option ℕ) (up : List ℕ) → IsClimb p at up → length up ≤ n → climb p n at ≡ up
  climb_is n at [] h l = rw h (climb_none n)
  climb_is zero at (k ∷ up) h l = absurd (omega arith)
  climb_is (suc n) at (k ∷ up) h l =
      let le : length up ≤ n = omega arith in
      rw h.0 (climb_some n k h.1.0 h.1.1.0 ∙ ap (λ (u : List ℕ). k ∷ u) (climb_is n h.1.0 up h.1.1.1 le))

  -- at most one climb begins at a link
  pub climb_unique : (at : Option ℕ) (u v : List ℕ) → IsClimb p at u → IsClimb p at v → u ≡ v
  climb_unique at [] [] g h = refl
  climb_unique at [] (k ∷ v) g h = let a : at ≡ None = g in let b : at ≡ Some k = h.0 in cc
  climb_unique at (k ∷ u) [] g h = let a : at ≡ None = h in let b : at ≡ Some k = g.0 in cc
  climb_unique at (j ∷ u) (k ∷ v) g h =
      let a : at ≡ Some j = g.0 in let b : at ≡ Some k = h.0 in
      let same : j ≡ k = cc in
      let c : p j ≡ Some g.1.0 = g.1.1.0 in let d : p k ≡ Some h.1.0 = h.1.1.0 in
      let e : p j ≡ p k = ap p same in
      let next : h.1.0 ≡ g.1.0 = cc in
      let hv : IsClimb p g.1.0 v = subst (λ (o : Option ℕ). IsClimb p o v) next h.1.1.1 in
      let rest : u ≡ v = climb_unique g.1.0 u v g.1.1.1 hv in
      cc

  -- the rest of a climb from one of its keys on is the climb from that key
  pub climb_from : (at : Option ℕ) (lower : List ℕ) (k : ℕ) (rest : List ℕ) → IsClimb p at (lower ++ k ∷ rest) → IsClimb p (Some k) (k ∷ rest)
  climb_from at [] k rest h = (refl, h.1)
  climb_from at (j ∷ lower) k rest h = climb_from h.1.0 lower k rest h.1.1.1

  -- each key of a climb has an item
  pub climb_there : (at : Option ℕ) (up : List ℕ) (k : ℕ) → IsClimb p at up → has k up ≡ true → (next : Option ℕ) × (p k ≡ Some next)
  climb_there at up k h m =
      let s = IsOnPath-from_has k up m in
      let c = climb_from at s.front k s.back (subst (IsClimb p at) s.is h) in
      (c.1.0, c.1.1.0)

  -- no key is twice in a climb
  pub not_again : (k : ℕ) (rest : List ℕ) → IsClimb p (Some k) (k ∷ rest) → has k rest ≡ false
  not_again k rest h = has_not_from k rest (λ m.
      let s = IsOnPath-from_has k rest m in
      let here : IsClimb p (Some k) (k ∷ s.front ++ k ∷ s.back) = subst (λ r. IsClimb p (Some k) (k ∷ r)) s.is h in
      let again : IsClimb p (Some k) (k ∷ s.back) = climb_from (Some k) (k ∷ s.front) k s.back here in
      let same : k ∷ s.front ++ k ∷ s.back ≡ k ∷ s.back = climb_unique (Some k) (k ∷ s.front ++ k ∷ s.back) (k ∷ s.back) here again in
      let lengths = ap length same in
      absurd (omega (arith, length-append s.front (k ∷ s.back), lengths)))

  pub climb_distinct : (at : Option ℕ) (up : List ℕ) → IsClimb p at up → IsDistinct eqb up
  unfolding IsDistinct
  climb_distinct at [] h = tt
  climb_distinct at (k ∷ up) h =
      IsDistinct-cons eqb k up (AllByRecursion-from_has k up (not_again k up (refl, h.1))) (climb_distinct h.1.0 up h.1.1.1)

  -- if all keys with an item are below n, a climb has at most n keys
  pub climb_short : (n : ℕ) → ((k : ℕ) (next : Option ℕ) → p k ≡ Some next → k < n) → (at : Option ℕ) (up : List ℕ) → IsClimb p at up → length up ≤ n
  climb_short n bound at up h =
      length-le_from_distinct_below up n (climb_distinct at up h)
      (λ q m. let t = climb_there at up q h (has_from_any q up m) in bound q t.0 t.1)

  -- the last key of a climb in reverse is the key at which the climb begins
  pub last_of-climb_reverse : (at : Option ℕ) (up : List ℕ) → IsClimb p at up → last_of (reverse up) ≡ at
  last_of-climb_reverse at [] h = sym h
  last_of-climb_reverse at (k ∷ up) h = ap last_of (reverse_cons k up) ∙ last_from-push None (reverse up) k ∙ sym h.0

  -- a key of a climb is its first, or another key of the climb links to this key
  pub climb_cases : (at : Option ℕ) (up : List ℕ) (k : ℕ) (P : Type 0) → IsClimb p at up → has k up ≡ true → (at ≡ Some k → P)
      → ((j : ℕ) → p j ≡ Some (Some k) → has j up ≡ true → P) → P
  climb_cases at [] k P h m first later = absurd (cc)
  climb_cases at (j ∷ up) k P h m first later =
      has_cases k j up P m (λ same. first (h.0 ∙ ap Some (sym same)))
      (λ rest. climb_cases h.1.0 up k P h.1.1.1 rest (λ e. later j (h.1.1.0 ∙ ap Some e) (has-head j up)) (λ i e n. later i e (has-tail i j up n)))

-- a change that keeps the links of a climb keeps the climb
pub climb_kept : (p q : ℕ → Option (Option ℕ)) (at : Option ℕ) (up : List ℕ) → ((k : ℕ) (next : Option ℕ) → has k up ≡ true → p k ≡ Some next → q k ≡ Some next)
    → IsClimb p at up → IsClimb q at up
climb_kept p q at [] same h = h
climb_kept p q at (k ∷ up) same h =
    (h.0, (h.1.0, (same k h.1.0 (has-head k up) h.1.1.0, climb_kept p q h.1.0 up (λ j n m. same j n (has-tail j k up m)) h.1.1.1)))
