-- The key right above a key, as `above_of` gives it.
use Rattle.std.proofs.Common.{◌≡◌, ℕ, zero, suc, Bool, true, false, ◌||◌, nat_eq, cond, List, [], ◌∷◌, ◌++◌, Option, Some, None, IsSome, refl, sym, ap, ◌∙◌, true≢false, eq-eqb}
use Rattle.lineage.specs.Family.{last_of, last_from}
use Rattle.schedule_trie.specs.Trie.{SegmentOf, KeyedBranch, keys_in, has, above_of, before_key}
use Rattle.schedule_trie.proofs.lists.KeyPositions.{parting}

-- the key before the first `key` of a path: the last of `front`, or `up` if `front` is empty
before-here : (key : ℕ) (up : Option ℕ) (front back : List ℕ) → has key front ≡ false → before_key key up (front ++ key ∷ back) ≡ last_from up front
before-here key up [] back h = ap (λ b. cond b up (before_key key (Some key) back)) (eq-eqb key key refl)
before-here key up (k ∷ front) back h = by (nat_eq key k) refl (before-here key (Some k) front back)
  where
    by : (b : Bool) → nat_eq key k ≡ b → (has key front ≡ false → before_key key (Some k) (front ++ key ∷ back) ≡ last_from (Some k) front)
        → before_key key up (k ∷ (front ++ key ∷ back)) ≡ last_from (Some k) front
    by true e rest = absurd (true≢false (sym (ap (λ c. c || has key front) e) ∙ h))
    by false e rest = ap (λ b. cond b up (before_key key (Some k) (front ++ key ∷ back))) e ∙ rest (sym (ap (λ c. c || has key front) e) ∙ h)

-- a key that is right above another in each path is the one that `above_of` gives
pub above_is : (ss : List KeyedBranch) (key : ℕ) (r : Option ℕ) → ((i : ℕ) (front back : List ℕ) → keys_in ss i ≡ front ++ key ∷ back → r ≡ last_of front)
    → (((i : ℕ) → has key (keys_in ss i) ≡ false) → r ≡ None) → r ≡ above_of ss key
above_is [] key r each none = none (λ i. refl)
above_is (s ∷ ss) key r each none = by (has key s.keys) refl (above_is ss key r (λ i front back e. each (suc i) front back e))
  where
    lacks_all : has key s.keys ≡ false → ((i : ℕ) → has key (keys_in ss i) ≡ false) → (i : ℕ) → has key (keys_in (s ∷ ss) i) ≡ false
    lacks_all e rest zero = e
    lacks_all e rest (suc i) = rest i

    by : (b : Bool) → has key s.keys ≡ b → ((((i : ℕ) → has key (keys_in ss i) ≡ false) → r ≡ None) → r ≡ above_of ss key) → r ≡ above_of (s ∷ ss) key
    by true e rest =
        let p = parting s.keys key e in
        each 0 p.front p.back p.is ∙ sym (before-here key None p.front p.back p.lacks) ∙ ap (before_key key None) (sym p.is)
        ∙ sym (ap (λ b. cond b (before_key key None s.keys) (above_of ss key)) e)
    by false e rest = rest (λ lacks. none (lacks_all e lacks)) ∙ sym (ap (λ b. cond b (before_key key None s.keys) (above_of ss key)) e)

-- a segment that no branch has doesn't exist
pub lacked_none : {T : Type 0} (o : Option (SegmentOf T)) (branches : List KeyedBranch) (key : ℕ) → (IsSome o → (i : ℕ) × (has key (keys_in branches i) ≡ true))
    → ((i : ℕ) → has key (keys_in branches i) ≡ false) → o ≡ None
lacked_none None branches key live lacks = refl
lacked_none (Some p) branches key live lacks = let l = live refl in absurd (true≢false (sym l.1 ∙ lacks l.0))
