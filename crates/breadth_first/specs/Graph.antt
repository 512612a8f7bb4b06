-- What a graph is to a search.
use Rattle.std.specs.Prelude.{ℕ, Bool, Option}

-- a graph's number of labels; the node to which a label leads; the node that a search begins at; a
-- node's key; and whether a node is a goal
pub record GraphOf (N K : Type 0) : Type 0 where
  pub labels : ℕ
  pub move : N → ℕ → Option N
  pub origin : N
  pub key : N → K
  pub is_goal : N → Bool
