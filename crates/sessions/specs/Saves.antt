-- What a file keeps of a world: its branches, as limbs.
use Rattle.std.specs.Prelude.{◌≡◌, ◌<◌, List, length}
use Rattle.schedule_trie.specs.declared.limb.Limb.{Limb}
use Rattle.schedule_trie.specs.Limbs.{FitLimits, AreLawfulLimbs, limbs}
use Rattle.cutoff.specs.Charts.{LimbsFit}
use Rattle.sessions.specs.World.{World}

-- `saved` are the limbs of a world's branches. There is at least one limb. The limbs are lawful, as
-- `AreLawfulLimbs` says, and their steps fit the register. In each limb, the index of the branch
-- that it shares cells with, and the count of the shared cells, are within the world's limits.
pub record IsSaved {P : Type 0} (w : World P) (saved : List Limb) : Type 0 where
  pub same : saved ≡ limbs w.forest
  pub lawful : AreLawfulLimbs saved
  pub some : 0 < length saved
  pub fit : LimbsFit w.tower saved
  pub within : FitLimits w.limits saved
