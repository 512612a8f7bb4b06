-- A vector has memory reserved for the items that a loop has to go.
use Rattle.std.proofs.Common.{◌≡◌, ℕ, ◌+◌, ◌<◌, ◌≤◌, List, ◌∷◌, length, ap, arith}

-- a loop has these `left` items to go, and a vector with `len` items and this capacity has memory
-- reserved for `left` more
pub record IsRoomReserved {A : Type 0} (items : List A) (left len capacity : ℕ) : Type 0 where
  pub count : left ≡ length items
  pub room : len + left ≤ capacity

-- room is reserved for the next item and, once it is pushed, for the rest
module _ {A : Type 0} (items rest : List A) (next : A) (left len capacity : ℕ) (split : items ≡ next ∷ rest) (was : IsRoomReserved items left len capacity) where
  pub room_for_next : len < capacity
  room_for_next = omega (arith, was.count, was.room, ap length split)

  pub room_for_rest : (fewer more same : ℕ) → fewer + 1 ≡ left → more ≡ len + 1 → same ≡ capacity → IsRoomReserved rest fewer more same
  room_for_rest fewer more same gone added kept = record { count = omega (arith, was.count, ap length split, gone); room = omega (arith, was.room, gone, added, kept) }
