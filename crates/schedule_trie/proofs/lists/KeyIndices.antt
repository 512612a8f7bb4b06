-- The position of a key in the paths that have it.
use Rattle.std.proofs.Common.{◌≡◌, ℕ, zero, suc, ◌+◌, List, [], ◌∷◌, length, slice_get, Option, Some, None, refl, sym, ap, subst, ◌∙◌, arith}
use Rattle.schedule_trie.specs.Trie.{Linked}
use Rattle.schedule_trie.proofs.lists.NoRepeats.{AreAbove, AreAbove-one}

-- above a path's key are as many keys as its index, and those above the path
above_at : (above : ℕ → Option ℕ) (up : Option ℕ) (seen ks : List ℕ) (place k : ℕ) → AreAbove above up seen → Linked above up ks → slice_get ks place ≡ Some k
    → (ys : List ℕ) × AreAbove above (above k) ys × (length ys ≡ length seen + place)
above_at above up seen [] place k u l e = absurd (cc)
above_at above up seen (j ∷ ks) zero k u l e =
    let same : j ≡ k = cc in
    (seen, subst (λ z. AreAbove above (above z) seen) same (subst (λ o. AreAbove above o seen) (sym l.0) u), omega arith)
above_at above up seen (j ∷ ks) (suc place) k u l e =
    let at_j : AreAbove above (above j) seen = subst (λ o. AreAbove above o seen) (sym l.0) u in
    let p = above_at above (Some j) (j ∷ seen) ks place k (refl, at_j) l.1 e in
    (p.0, p.1, omega (arith, p.2))

-- a key has the same index in each path that has it
pub one_index : (above : ℕ → Option ℕ) (xs ys : List ℕ) (m n k : ℕ) → Linked above None xs → Linked above None ys → slice_get xs m ≡ Some k
    → slice_get ys n ≡ Some k → m ≡ n
one_index above xs ys m n k a b e f =
    let p = above_at above None [] xs m k refl a e in
    let r = above_at above None [] ys n k refl b f in
    let same : length p.0 ≡ length r.0 = AreAbove-one above (above k) p.0 r.0 p.1 r.1 in
    omega (arith, p.2, r.2)

-- the key before an index is above the key there
pub before_index : (above : ℕ → Option ℕ) (up : Option ℕ) (ks : List ℕ) (place k : ℕ) → Linked above up ks → slice_get ks (suc place) ≡ Some k
    → (j : ℕ) × (slice_get ks place ≡ Some j) × (above k ≡ Some j)
before_index above up [] place k l e = absurd (cc)
before_index above up (i ∷ []) place k l e = absurd (cc)
before_index above up (i ∷ (j ∷ ks)) zero k l e = let same : j ≡ k = cc in (i, refl, ap above (sym same) ∙ l.1.0)
before_index above up (i ∷ (j ∷ ks)) (suc place) k l e = before_index above (Some i) (j ∷ ks) place k l.1 e
