-- What a script's desk is opened with: a register that builds a tower, its initial value, the
-- limits and the branches.
use Rattle.std.specs.Prelude.{◌≡◌, ◌<◌, ◌≤◌, ℕ, true, List}
use Rattle.frames.specs.declared.types.Step.{Step}
use Rattle.frames.specs.Behaviour.{Behaviour}
use Rattle.frames.specs.Configuration.{fits_step}
use Rattle.schedule_trie.specs.declared.limb.Limb.{Limb}
use Rattle.schedule_trie.specs.declared.limits.Limits.{Limits}
use Rattle.branch_terms.specs.declared.limits.TheConstants.{MOST_CELLS_MADE}
use Rattle.sessions.specs.World.{World, opening_of_limbs}
use Rattle.tower_file.specs.declared.tower.TowerSpec.{TowerSpec}
use Rattle.tower_file.specs.Towers.{fits, is_lawful_tower}
use Rattle.command_line.specs.Ranges.{AreOptionsInRange, limits_of}
use Rattle.towerbench.specs.declared.opening.Opening.{Opening}
use Rattle.towerbench.specs.Courses.{course_from, course_of}

-- This register, from this initial value, does what tower t does: the same steps fit both, and
-- scripts get the same answers and leave the same branches on both.
pub record Builds {R P : Type 0} (is : R → Behaviour P) (register : R) (value : ℕ) (t : TowerSpec) : Type 0 where
  pub alike : (s : Step) → fits t s ≡ fits_step (is register) s
  pub course : (limits : Limits) (ls : List Limb) → course_of t limits ls ≡ course_from (opening_of_limbs (is register) value limits ls)

-- A desk can be opened with this: the initial value is one of the register's values, the options
-- are in their ranges, and the register and the initial value are those of the setup's tower.
pub record CanOpen {R P : Type 0} (is : R → Behaviour P) (o : Opening R) : Type 0 where
  pub value : o.value < (is o.register).values
  pub limits : AreOptionsInRange o.setup.options
  pub builds : Builds is o.register o.value o.setup.bench.tower

-- World w is one of tower t: this tower is lawful, the same steps fit it and the register of w, and
-- the limits on cells and branches are at most the greatest that options can give.
pub record IsOnTower {P : Type 0} (t : TowerSpec) (w : World P) : Type 0 where
  pub lawful : is_lawful_tower t ≡ true
  pub alike : (s : Step) → fits t s ≡ fits_step w.tower s
  pub cells : w.limits.cells ≤ MOST_CELLS_MADE
  pub branches : w.limits.branches ≤ 1024

-- the world that the first line of the script finds: the one that this opening describes
abbrev pub opening_world : {R P : Type 0} → (R → Behaviour P) → Opening R → World P
opening_world is o = opening_of_limbs (is o.register) o.value (limits_of o.setup.options) o.setup.bench.limbs
