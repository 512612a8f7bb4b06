-- The entries that a chair adds to the list while it has the turn.
use Rattle.std.specs.Prelude.{◌≡◌, ◌⊎◌, ℕ, List, [], ◌∷◌}

-- `added` is empty, or is one entry, which was made under the number n
abbrev pub AtMostOne : {E : Type 0} → (E → ℕ) → ℕ → List E → Type 0
AtMostOne {E} by n added = (added ≡ []) ⊎ ((e : E) × (added ≡ e ∷ []) × (by e ≡ n))
