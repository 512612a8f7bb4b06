-- The contents of a bench file.
use Rattle.std.specs.Prelude.{◌≡◌, ◌^◌, Bool, true, false, ◌&&◌, nat_lt, List, [], ◌∷◌, Option, Some, None, if◌then◌else◌}
use Rattle.std.specs.List.{list_all}
use Rattle.branch_terms.specs.declared.limb.Limb.{Limb}
use Rattle.branch_terms.specs.Limbs.{are_lawful_after}
use Rattle.tower_file.specs.declared.tower.TowerSpec.{TowerSpec}
use Rattle.tower_file.specs.Towers.{is_lawful_tower, fits}

-- the contents of a bench file: a tower, and the limbs of a forest
pub record Bench : Type 0 where
  pub tower : TowerSpec
  pub limbs : List Limb

-- the bench with this tower and these limbs
abbrev pub bench_of : TowerSpec → List Limb → Bench
bench_of t limbs = record { tower = t; limbs = limbs }

-- whether there is at least one limb
abbrev pub has_limbs : List Limb → Bool
has_limbs [] = false
has_limbs (l ∷ ls) = true

-- whether the limb's `from` and `shared` have at most 9 digits, and its steps fit the tower
abbrev pub is_fitting : TowerSpec → Limb → Bool
is_fitting t l = (nat_lt l.from (10 ^ 9) && nat_lt l.shared (10 ^ 9)) && list_all (fits t) l.steps

-- whether a bench file on this tower can have these limbs: each has a new name and satisfies
-- `may_share`, given the limbs before it; its `from` and `shared` have at most 9 digits; and its
-- steps fit the tower
abbrev pub are_lawful : TowerSpec → List Limb → Bool
are_lawful t limbs = are_lawful_after [] limbs && list_all (is_fitting t) limbs

-- whether the tower is lawful, there is at least one limb, and a bench file on this tower can have
-- these limbs
abbrev pub is_lawful_bench : Bench → Bool
is_lawful_bench b = (is_lawful_tower b.tower && has_limbs b.limbs) && are_lawful b.tower b.limbs

-- The bench is lawful: its tower is lawful, there is at least one limb, and a bench file on that
-- tower can have these limbs.
abbrev pub IsLawfulBench : Bench → Type 0
IsLawfulBench b = is_lawful_bench b ≡ true

-- the bench with this tower and these limbs; `None` if that bench isn't lawful
abbrev pub checked_bench : TowerSpec → List Limb → Option Bench
checked_bench t limbs = if is_lawful_bench (bench_of t limbs) then Some (bench_of t limbs) else None
