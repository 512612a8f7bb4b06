-- The last key of a list.
use Rattle.std.proofs.Common.{◌≡◌, ℕ, List, [], ◌∷◌, ◌++◌, Some, None, refl, sym, ap, ◌∙◌}
use Rattle.lineage.specs.Family.{last_of, last_from}

last_from-is_some : (ks : List ℕ) (k : ℕ) → last_from (Some k) ks ≡ None → ⊥
last_from-is_some [] k e = cc
last_from-is_some (j ∷ js) k e = last_from-is_some js j e

-- a path that has no last key is empty
pub empty_from_no_last : (path : List ℕ) → last_of path ≡ None → path ≡ []
empty_from_no_last [] e = refl
empty_from_no_last (k ∷ ks) e = absurd (last_from-is_some ks k e)

-- a list that isn't empty is the keys before its last key, and this key
pub last_from-parts : (keys : List ℕ) (first key : ℕ) → (k : ℕ) × ((front : List ℕ) × ((last_from (Some first) keys ≡ Some k) × (first ∷ keys ≡ front ++ k ∷ [])))
last_from-parts [] first key = (first, ([], (refl, refl)))
last_from-parts (j ∷ js) first key = let p = last_from-parts js j key in (p.0, (first ∷ p.1.0, (p.1.1.0, ap (λ l. first ∷ l) p.1.1.1)))

pub last_of-parts : (keys : List ℕ) (key : ℕ) → last_of keys ≡ Some key → (front : List ℕ) × (keys ≡ front ++ key ∷ [])
last_of-parts [] key e = absurd (cc)
last_of-parts (k ∷ ks) key e =
    let p = last_from-parts ks k k in
    let one : Some p.0 ≡ Some key = sym p.1.1.0 ∙ e in
    let same : p.0 ≡ key = cc in
    (p.1.0, p.1.1.1 ∙ ap (λ z. p.1.0 ++ z ∷ []) same)
