-- Climbs: the keys from one key up, each followed by the key that it links to.
use Rattle.std.specs.Prelude.{◌≡◌, ℕ, zero, suc, List, [], ◌∷◌, Option, Some, None}

-- the list is a climb from `at` to a key that links to none: the key `at`, the key that `at` links
-- to, and so on; the list is empty if `at` is None. `above k` is the link of k, or None if k has no
-- item.
abbrev pub IsClimb : (ℕ → Option (Option ℕ)) → Option ℕ → List ℕ → Type 0
IsClimb above at [] = at ≡ None
IsClimb above at (k ∷ up) = (at ≡ Some k) × ((next : Option ℕ) × ((above k ≡ Some next) × IsClimb above next up))

-- the first n keys of the climb from `at` (the key `at`, the key that it links to, and so on), or
-- all its keys if there are fewer; the climb stops before a key without an item
abbrev pub climb : (ℕ → Option (Option ℕ)) → ℕ → Option ℕ → List ℕ
climb above zero at = []
climb above (suc n) None = []
climb above (suc n) (Some k) = elim (above k) as (λ _. List ℕ) [ None ↦ [] | Some next ↦ k ∷ climb above n next ]

-- the climb from `at` ends, and `up` are all its keys
pub record Ends (above : ℕ → Option (Option ℕ)) (at : Option ℕ) : Type 0 where
  pub up : List ℕ
  pub is : IsClimb above at up
