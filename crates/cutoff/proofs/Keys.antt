-- Keys: whether two are the same, and which lists and branches have one.
use Rattle.std.proofs.Common.{◌≡◌, ℕ, Bool, true, false, ◌||◌, nat_eq, List, [], ◌∷◌, ◌++◌, refl, sym, ap, subst, ◌∙◌, true≢false, eq-eqb}
use Rattle.std.proofs.lemmas.Bool.{eqb-true}
use Rattle.schedule_trie.specs.Trie.{TrieOf, has, keys_in, Once, IsCut}
use Rattle.schedule_trie.specs.Climbs.{keys_up_to}
use Rattle.schedule_trie.proofs.lists.KeyPositions.{parting}
use Rattle.schedule_trie.proofs.lists.NoRepeats.{has_cases, has_not_from, has-append, has-head, has-in, has-tail, Once-from_linked}

-- two cases: two keys are the same, or they aren't
pub by_key : (j k : ℕ) (Q : Type 0) → (j ≡ k → Q) → ((j ≡ k → ⊥) → Q) → Q
by_key j k Q same other = by (nat_eq j k) refl
  where
    by : (b : Bool) → nat_eq j k ≡ b → Q
    by true e = same (eqb-true j k e)
    by false e = other (λ s. true≢false (sym (eq-eqb j k s) ∙ e))

-- a key that the list k ∷ ks lacks isn't k, and ks lacks it
pub lacks_cons : (j k : ℕ) (ks : List ℕ) → has j (k ∷ ks) ≡ false → (j ≡ k → ⊥) × (has j ks ≡ false)
lacks_cons j k ks h = (λ e. true≢false (sym (subst (λ i. has i (k ∷ ks) ≡ true) (sym e) (has-head k ks)) ∙ h), by (has j ks) refl)
  where
    by : (b : Bool) → has j ks ≡ b → has j ks ≡ false
    by true e = absurd (true≢false (sym (has-tail j k ks e) ∙ h))
    by false e = e

-- a key that a list lacks isn't in the list's front part
pub lacks_front : (key : ℕ) (front back : List ℕ) → has key (front ++ back) ≡ false → has key front ≡ false
lacks_front key front back h =
    has_not_from key front (λ e. true≢false (sym (has-append key front back ∙ ap (λ b. b || has key back) e) ∙ h))

-- a key of `keys` and k that isn't k is in `keys`
pub has_unless_last : (f k : ℕ) (keys : List ℕ) → has f (keys ++ k ∷ []) ≡ true → (f ≡ k → ⊥) → has f keys ≡ true
has_unless_last f k [] h other = has_cases f k [] (has f [] ≡ true) h (λ e. absurd (other e)) (λ r. r)
has_unless_last f k (j ∷ keys) h other =
    has_cases f j (keys ++ k ∷ []) (has f (j ∷ keys) ≡ true) h (λ e. subst (λ z. has f (z ∷ keys) ≡ true) e (has-head f keys)) (λ r. has-tail f j keys (has_unless_last f k keys r other))

-- a key of a path is among the path's keys down to that key
pub up_to_itself : (keys : List ℕ) (k : ℕ) → has k keys ≡ true → has k (keys_up_to k keys) ≡ true
up_to_itself keys k h = let p = parting keys k h in ap (has k) p.to ∙ has-in k p.front []

-- no key is twice on a branch
pub path_once : {T : Type 0} (trie : TrieOf T) → IsCut trie → (i : ℕ) → Once (keys_in trie.branches i)
path_once trie whole i = Once-from_linked whole.shares.above (keys_in trie.branches i) (whole.shares.linked i)

-- in a list without repeats, a key isn't among those after it
pub once_after : (front : List ℕ) (key : ℕ) (back : List ℕ) → Once (front ++ key ∷ back) → has key back ≡ false
once_after [] key back o = o.0
once_after (k ∷ front) key back o = once_after front key back o.1
