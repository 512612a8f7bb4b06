-- Paths without a key.
use Rattle.std.proofs.Common.{◌≡◌, ℕ, zero, suc, Bool, true, false, not, ◌||◌, nat_eq, cond, List, [], ◌∷◌, map, Option, Some, None, refl, sym, ap, subst, ◌∙◌}
use Rattle.std.proofs.lemmas.Bool.{eqb-true}
use Rattle.schedule_trie.specs.Trie.{KeyedBranch, keys_in, has, Linked, keys_without, branch_without}
use Rattle.schedule_trie.proofs.lists.NoRepeats.{has-head, has-tail, has_cases}

-- the keys of the branch at an index, after a key is removed
pub keys_in-without : (key : ℕ) (ss : List KeyedBranch) (i : ℕ) → keys_in (map (branch_without key) ss) i ≡ keys_without key (keys_in ss i)
keys_in-without key [] i = refl
keys_in-without key (s ∷ ss) zero = refl
keys_in-without key (s ∷ ss) (suc i) = keys_in-without key ss i

module _ (key k : ℕ) where
  -- a key that is left was there before
  pub has_from_without : (ks : List ℕ) → has k (keys_without key ks) ≡ true → has k ks ≡ true
  has_from_without [] h = h
  has_from_without (j ∷ ks) h = by (nat_eq key j) refl (has_from_without ks)
    where
      by : (b : Bool) → nat_eq key j ≡ b → (has k (keys_without key ks) ≡ true → has k ks ≡ true) → has k (j ∷ ks) ≡ true
      by true e rest = has-tail k j ks (rest (sym (ap (λ b. has k (cond (not b) (j ∷ keys_without key ks) (keys_without key ks))) e) ∙ h))
      by false e rest = has_cases k j (keys_without key ks) (has k (j ∷ ks) ≡ true)
          (sym (ap (λ b. has k (cond (not b) (j ∷ keys_without key ks) (keys_without key ks))) e) ∙ h)
          (λ f. subst (λ z. has k (z ∷ ks) ≡ true) f (has-head k ks)) (λ r. has-tail k j ks (rest r))

-- the removed key isn't there any more
pub has-without_own : (key : ℕ) (ks : List ℕ) → has key (keys_without key ks) ≡ false
has-without_own key [] = refl
has-without_own key (j ∷ ks) = by (nat_eq key j) refl (has-without_own key ks)
  where
    by : (b : Bool) → nat_eq key j ≡ b → has key (keys_without key ks) ≡ false → has key (keys_without key (j ∷ ks)) ≡ false
    by true e rest = ap (λ b. has key (cond (not b) (j ∷ keys_without key ks) (keys_without key ks))) e ∙ rest
    by false e rest = ap (λ b. has key (cond (not b) (j ∷ keys_without key ks) (keys_without key ks))) e
        ∙ ap (λ c. c || has key (keys_without key ks)) e ∙ rest

-- the link past a removed key: a link to this key becomes a link to the key above it
abbrev pub above_past : (ℕ → Option ℕ) → ℕ → Option ℕ → Option ℕ
above_past above key None = None
above_past above key (Some k) = cond (nat_eq key k) (above key) (Some k)

above_past-own : (above : ℕ → Option ℕ) (key : ℕ) (up : Option ℕ) → above key ≡ up → above_past above key up ≡ up
above_past-own above key None e = refl
above_past-own above key (Some k) e = by (nat_eq key k)
  where
    by : (b : Bool) → cond b (above key) (Some k) ≡ Some k
    by true = e
    by false = refl

-- a linked path without a key is linked by the links past this key
pub linked_without : (above : ℕ → Option ℕ) (key : ℕ) (up : Option ℕ) (ks : List ℕ) → Linked above up ks
    → Linked (λ k. above_past above key (above k)) (above_past above key up) (keys_without key ks)
linked_without above key up [] l = tt
linked_without above key up (k ∷ ks) l = by (nat_eq key k) refl (linked_without above key (Some k) ks l.1)
  where
    by : (b : Bool) → nat_eq key k ≡ b → Linked (λ j. above_past above key (above j)) (above_past above key (Some k)) (keys_without key ks)
        → Linked (λ j. above_past above key (above j)) (above_past above key up) (keys_without key (k ∷ ks))
    by true e rest =
        let own : above key ≡ up = ap above (eqb-true key k e) ∙ l.0 in
        subst (λ b. Linked (λ j. above_past above key (above j)) (above_past above key up) (cond (not b) (k ∷ keys_without key ks) (keys_without key ks))) (sym e)
        (subst (λ o. Linked (λ j. above_past above key (above j)) o (keys_without key ks))
        (ap (λ b. cond b (above key) (Some k)) e ∙ own ∙ sym (above_past-own above key up own)) rest)
    by false e rest =
        subst (λ b. Linked (λ j. above_past above key (above j)) (above_past above key up) (cond (not b) (k ∷ keys_without key ks) (keys_without key ks))) (sym e)
        (ap (above_past above key) l.0, subst (λ o. Linked (λ j. above_past above key (above j)) o (keys_without key ks)) (ap (λ b. cond b (above key) (Some k)) e) rest)
