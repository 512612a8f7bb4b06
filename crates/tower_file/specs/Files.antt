-- The contents of a tower file.
use Rattle.std.specs.Prelude.{◌≡◌, Bool, true, ◌&&◌, List, Option, Some, None, if◌then◌else◌}
use Rattle.std.specs.List.{list_all}
use Rattle.frames.specs.declared.types.Step.{Step}
use Rattle.tower_file.specs.declared.tower.TowerSpec.{TowerSpec}
use Rattle.tower_file.specs.declared.version.Version.{Version}
use Rattle.tower_file.specs.Towers.{is_lawful_tower}
use Rattle.tower_file.specs.Versions.{may_have}

-- the contents of a tower file: a version of the file format, a tower and a schedule
pub record File : Type 0 where
  pub version : Version
  pub tower : TowerSpec
  pub steps : List Step

-- the file with this version, tower and steps
abbrev pub file_of : Version → TowerSpec → List Step → File
file_of v t steps = record { version = v; tower = t; steps = steps }

-- whether the tower is lawful, the version can express each step, and each step fits the tower
abbrev pub is_lawful_file : File → Bool
is_lawful_file f = is_lawful_tower f.tower && list_all (may_have f.version f.tower) f.steps

-- the file with this version, tower and steps; `None` if that file isn't lawful
abbrev pub checked_file : Version → TowerSpec → List Step → Option File
checked_file v t steps = if is_lawful_file (file_of v t steps) then Some (file_of v t steps) else None

-- The file is lawful: its tower is lawful, its version can express each step, and each step fits
-- the tower.
abbrev pub IsLawfulFile : File → Type 0
IsLawfulFile f = is_lawful_file f ≡ true
