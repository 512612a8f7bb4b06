-- The world of a desk: what its commands see and change.
use Rattle.std.specs.Prelude.{ℕ, List, [], Option, None, replicate}
use Rattle.frames.specs.Behaviour.{Behaviour}
use Rattle.frames.specs.declared.types.Step.{Step}
use Rattle.schedule_trie.specs.declared.limb.Limb.{Limb}
use Rattle.schedule_trie.specs.declared.limits.Limits.{Limits}
use Rattle.schedule_trie.specs.Forest.{Forest, opening_forest}
use Rattle.schedule_trie.specs.Limbs.{forest_of}
use Rattle.pages.specs.declared.breakpoint.Break.{Break}
use Rattle.sessions.specs.declared.cursor.Cursor.{Cursor}

-- a world: the register and its initial value; the limits; the branches; for each of sixteen
-- sessions, its cursor (`None` if it hasn't joined) and its breaks in the order they were set; and
-- the numbers of accepted edits and of logged commands
pub record World (P : Type 0) : Type 0 where
  pub tower : Behaviour P
  pub value : ℕ
  pub limits : Limits
  pub forest : Forest
  pub cursors : List (Option Cursor)
  pub breaks : List (List Break)
  pub edits : ℕ
  pub logged : ℕ

-- the world before the first command: no session has joined
abbrev pub opening : {P : Type 0} → Behaviour P → ℕ → Limits → Forest → World P
opening b value limits f =
    record { tower = b; value = value; limits = limits; forest = f; cursors = replicate 16 None; breaks = replicate 16 []; edits = 0; logged = 0 }

-- the world that opens with one branch, `main`, which has these steps
abbrev pub opening_of_steps : {P : Type 0} → Behaviour P → ℕ → Limits → List Step → World P
opening_of_steps b value limits steps = opening b value limits (opening_forest steps)

-- the world that opens with the branches that these limbs describe
abbrev pub opening_of_limbs : {P : Type 0} → Behaviour P → ℕ → Limits → List Limb → World P
opening_of_limbs b value limits limbs = opening b value limits (forest_of limbs)
