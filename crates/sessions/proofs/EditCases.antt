-- What holds of an edit's result, once its branch is found and its tests have passed.
use Rattle.std.proofs.Common.{◌≡◌, ℕ, Bool, true, false, cond, Option, Some, None, Result, Ok, Err, refl, subst}
use Rattle.std.specs.Prelude.{IfOk}
use Rattle.schedule_trie.specs.declared.refusal.Refusal.{Refusal}
use Rattle.schedule_trie.specs.Forest as forests
use Rattle.schedule_trie.specs.Forest.{Forest}

module _ (P : Forest → Type 0) where
  pub found_ok : (o : Option ℕ) (command : ℕ → Result Forest Refusal) → ((i : ℕ) → o ≡ Some i → IfOk (command i) P) → IfOk (forests.on_found o command) P
  found_ok None command h = tt
  found_ok (Some i) command h = h i refl

  pub tested_ok : (t : Bool) (r : Refusal) (x : Result Forest Refusal) → (t ≡ false → IfOk x P) → IfOk (cond t (Err r) x) P
  tested_ok true r x h = tt
  tested_ok false r x h = h refl

pub from_ok : (P : Forest → Type 0) (x : Result Forest Refusal) (g : Forest) → x ≡ Ok g → IfOk x P → P g
from_ok P x g e h = subst (λ y. IfOk y P) e h
