-- The position of a key in a list.
use Rattle.std.proofs.Common.{◌≡◌, ℕ, Bool, true, false, ◌||◌, nat_eq, cond, List, [], ◌∷◌, ◌++◌, refl, sym, ap, ◌∙◌, true≢false}
use Rattle.std.proofs.lemmas.Bool.{eqb-true}
use Rattle.schedule_trie.specs.Trie.{has}
use Rattle.schedule_trie.specs.Climbs.{keys_up_to}

-- a key of a list, with the keys before it and those after it
pub record IsParting (keys : List ℕ) (key : ℕ) : Type 0 where
  pub front : List ℕ
  pub back : List ℕ
  pub is : keys ≡ front ++ key ∷ back
  pub to : keys_up_to key keys ≡ front ++ key ∷ []
  pub lacks : has key front ≡ false

pub parting : (keys : List ℕ) (key : ℕ) → has key keys ≡ true → IsParting keys key
parting [] key h = absurd (true≢false (sym h))
parting (k ∷ ks) key h = by (nat_eq key k) refl (parting ks key)
  where
    by : (b : Bool) → nat_eq key k ≡ b → (has key ks ≡ true → IsParting ks key) → IsParting (k ∷ ks) key
    by true e rest =
        let same : key ≡ k = eqb-true key k e in
        record {
          front = [];
          back = ks;
          is = ap (λ z. z ∷ ks) (sym same);
          to = ap (λ b. cond b (k ∷ []) (k ∷ keys_up_to key ks)) e ∙ ap (λ z. z ∷ []) (sym same);
          lacks = refl;
        }
    by false e rest =
        let p = rest (sym (ap (λ c. c || has key ks) e) ∙ h) in
        record {
          front = k ∷ p.front;
          back = p.back;
          is = ap (λ l. k ∷ l) p.is;
          to = ap (λ b. cond b (k ∷ []) (k ∷ keys_up_to key ks)) e ∙ ap (λ l. k ∷ l) p.to;
          lacks = ap (λ c. c || has key p.front) e ∙ p.lacks;
        }
