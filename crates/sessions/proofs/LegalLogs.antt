-- Logs with one more entry.
use Rattle.std.proofs.Common.{◌≡◌, true, List, [], ◌∷◌, ◌++◌, refl}
use Rattle.sessions.specs.declared.log.Entry.{Entry}
use Rattle.sessions.specs.World.{World}
use Rattle.sessions.specs.Logs.{acted_by, world_after, IsLegal, is_logged}

module _ {P : Type 0} where
  pub legal_more : (w : World P) (log : List Entry) (e : Entry) → IsLegal w log → (acted_by e (world_after w log)).reply ≡ e.reply → is_logged e.reply ≡ true
      → IsLegal w (log ++ e ∷ [])
  legal_more w [] e h same logged = (same, logged, tt)
  legal_more w (f ∷ log) e h same logged = (h.0, h.1, legal_more (acted_by f w).world log e h.2 same logged)

  pub world_after_more : (w : World P) (log : List Entry) (e : Entry) → world_after w (log ++ e ∷ []) ≡ (acted_by e (world_after w log)).world
  world_after_more w [] e = refl
  world_after_more w (f ∷ log) e = world_after_more (acted_by f w).world log e
