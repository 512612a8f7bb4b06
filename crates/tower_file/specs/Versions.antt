-- The versions of the tower file format: the header of each, and the steps that it can express.
use Rattle.std.specs.Prelude.{ℕ, Bool, true, false, ◌&&◌, List, codes}
use Rattle.frames.specs.declared.types.Step.{Step}
use Rattle.frames.specs.declared.types.Step.TheVariants as step
use Rattle.tower_file.specs.declared.version.Version.{Version}
use Rattle.tower_file.specs.declared.version.Version.TheVariants.{One, Two}
use Rattle.tower_file.specs.declared.tower.TowerSpec.{TowerSpec}
use Rattle.tower_file.specs.Towers.{fits}

-- the first line of each file of this version
abbrev pub header : Version → List ℕ
header One = codes "tower 1"
header Two = codes "tower 2"

-- whether a file of this version can express the step: version 1 can express all steps except
-- stops, and version 2 can express all steps
abbrev pub has_step : Version → Step → Bool
has_step One (step.Write p v) = true
has_step One (step.Read p) = true
has_step One (step.Go p c) = true
has_step One (step.Stop p) = false
has_step Two s = true

-- whether a file of this version, with this tower, may have the step: the version can express it,
-- and it fits the tower
abbrev pub may_have : Version → TowerSpec → Step → Bool
may_have v t s = has_step v s && fits t s
