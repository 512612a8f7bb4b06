-- What a question file says, and what it leaves to a default.
use Rattle.std.specs.Prelude.{ℕ, nat_le, ◌&&◌, Bool, true, List, [], Option, Some, None, map, replicate, unwrap_or}
use Rattle.std.specs.Global.{Vec}
use Rattle.frames.specs.declared.types.Op.{Op}
use Rattle.answers.specs.declared.question.After.{After}
use Rattle.tower_file.specs.declared.tower.TowerSpec.{TowerSpec}
use Rattle.tower_file.specs.declared.tower.TowerSpec.TheVariants.{Safe, Copies, Regular, Unary, Stamped, Matrix}
use Rattle.tower_file.specs.Towers.{processes_of}

-- what a question file says: a tower and its register's initial value; for each process its
-- operations; which operations follow which; the processes that may stop; and the most states to
-- search, if the file gives their number
pub record Asked : Type 0 where
  pub tower : TowerSpec
  pub value : ℕ
  pub operations : List (List Op)
  pub after : List After
  pub may_stop : List ℕ
  pub most : Option ℕ

-- the initial value of a tower's register
abbrev pub initial_value : TowerSpec → ℕ
initial_value (Safe init) = init
initial_value (Copies readers init) = init
initial_value (Regular readers init) = init
initial_value (Unary values readers init) = init
initial_value (Stamped values last) = 0
initial_value (Matrix processes values last_tag last_stamp) = 0

-- an empty list of operations for each of n processes
abbrev pub no_lists : ℕ → List (List Op)
no_lists n = replicate n []

-- the lists in vectors
abbrev pub lists_of : List (Vec Op) → List (List Op)
lists_of vectors = map (λ v. v.items) vectors

-- what a file says that has the line of a tower alone
abbrev pub asked_of : TowerSpec → Asked
asked_of t = record {
  tower = t;
  value = initial_value t;
  operations = no_lists (processes_of t);
  after = [];
  may_stop = [];
  most = None;
}

-- whether the number of states that a file gives, if it does, is 1 to 2^24
abbrev pub is_limit : Option ℕ → Bool
is_limit None = true
is_limit (Some n) = nat_le 1 n && nat_le n 16777216

-- the most states to search: as many as the file says, or 2^20 if it doesn't
abbrev pub most_states : Asked → ℕ
most_states a = unwrap_or a.most 1048576
