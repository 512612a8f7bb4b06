-- Climbs of a path past keys that satisfy a condition: here, that they have no mark.
use Rattle.std.proofs.Common.{◌≡◌, ℕ, true, List, [], ◌∷◌, ◌++◌, reverse, Option, Some, None, refl, sym, ap, subst, ◌∙◌, true≢false, append_assoc, append-nil}
use Rattle.std.proofs.lemmas.List.{reverse-append}
use Rattle.lineage.specs.Family.{last_of}
use Rattle.schedule_trie.specs.declared.mark.Mark.{Mark}
use Rattle.schedule_trie.specs.Trie.{has}
use Rattle.schedule_trie.specs.Climbs.{keys_to, HasClimbedTo}
use Rattle.schedule_trie.specs.Marks.{mark_at, IsMarkOf, IsOwnPart}
use Rattle.schedule_trie.proofs.climbs.Climbs.{IsLast, IsStepUp}
use Rattle.schedule_trie.proofs.lists.NoRepeats.{has_cases, last_from-push}
use Rattle.schedule_trie.proofs.lists.KeyPositions.{parting}

-- a climb has reached `at`; `own` are the keys that it has passed, and each satisfies `IsFree`
pub record IsClimbing (IsFree : ℕ → Type 0) (keys : List ℕ) (at : Option ℕ) (own : List ℕ) : Type 0 where
  pub reached : HasClimbedTo keys at
  pub is : keys ≡ keys_to keys at ++ reverse own
  pub free : (k : ℕ) → has k (reverse own) ≡ true → IsFree k

pub last_reached : (keys : List ℕ) (at : Option ℕ) → HasClimbedTo keys at → last_of (keys_to keys at) ≡ at
last_reached keys None h = refl
last_reached keys (Some key) h = let p = parting keys key h in ap last_of p.to ∙ last_from-push None p.front key

module _ (IsFree : ℕ → Type 0) (keys : List ℕ) where
  pub climbing_first : (last : Option ℕ) → IsLast keys last → IsClimbing IsFree keys last []
  climbing_first last l = record {
    reached = l.reached;
    is = sym l.all ∙ sym (append-nil (keys_to keys last));
    free = λ k h. absurd (true≢false (sym h));
  }

  pub climbing_up : (at : Option ℕ) (key : ℕ) (above : Option ℕ) (own more : List ℕ) → at ≡ Some key → more ≡ own ++ key ∷ [] → IsClimbing IsFree keys at own
      → IsStepUp keys key above → IsFree key → IsClimbing IsFree keys above more
  climbing_up at key above own more e pushed c up key_free =
      let turned : reverse more ≡ key ∷ reverse own = ap reverse pushed ∙ reverse-append own (key ∷ []) in
      record {
        reached = up.reached;
        is = c.is ∙ ap (λ o. keys_to keys o ++ reverse own) e ∙ ap (λ l. l ++ reverse own) up.is
            ∙ append_assoc (keys_to keys above) (key ∷ []) (reverse own) ∙ ap (λ l. keys_to keys above ++ l) (sym turned);
        free = λ k h. has_cases k key (reverse own) (IsFree k) (subst (λ l. has k l ≡ true) turned h)
            (λ same. subst IsFree (sym same) key_free) (λ rest. c.free k rest);
      }

-- the key has no mark: `IsFree` of a climb up to the last marked key
abbrev pub IsUnmarked : List (Option Mark) → ℕ → Type 0
IsUnmarked marks k = mark_at marks k ≡ None

module _ (marks : List (Option Mark)) (keys : List ℕ) where
  pub own_part : (at : Option ℕ) (own all : List ℕ) (m : Mark) → IsClimbing (IsUnmarked marks) keys at own → IsMarkOf marks at m → all ≡ reverse own → IsOwnPart marks keys m all
  own_part at own all m c is turned =
      subst (IsOwnPart marks keys m) (sym turned)
      (record {
        front = keys_to keys at;
        is = c.is;
        marked = subst (λ o. IsMarkOf marks o m) (sym (last_reached keys at c.reached)) is;
        unmarked = c.free;
      })
