-- Towers of six kinds: how many values and processes a tower has, whether it is lawful, and which
-- steps fit it.
use Rattle.std.specs.Prelude.{ℕ, ◌+◌, ◌*◌, Bool, ◌&&◌, nat_lt, nat_le}
use Rattle.frames.specs.declared.types.Op.{Op}
use Rattle.frames.specs.declared.types.Op.TheVariants as op
use Rattle.frames.specs.declared.types.Step.{Step}
use Rattle.frames.specs.declared.limits.TheConstants.{LEAST_PROCESSES, LEAST_VALUES, MOST_READERS, MOST_VALUES, MOST_WRITERS}
use Rattle.frames.specs.declared.register.TheConstants.{MOST_CELLS}
use Rattle.frames.specs.Fitting.{Roles, fits_roles}
use Rattle.frames.specs.OneWriter.{one_writer}
use Rattle.tower_file.specs.declared.tower.TowerSpec.{TowerSpec}
use Rattle.tower_file.specs.declared.tower.TowerSpec.TheVariants.{Safe, Copies, Regular, Unary, Stamped, Matrix}

-- how many values a tower's register has
abbrev pub values_of : TowerSpec → ℕ
values_of (Safe init) = 2
values_of (Copies readers init) = 2
values_of (Regular readers init) = 2
values_of (Unary values readers init) = values
values_of (Stamped values last) = values
values_of (Matrix processes values last_tag last_stamp) = values

-- how many processes a tower has. A matrix has as many as its line gives. Any other tower has one
-- process more than it has readers; it has 1 reader if its line gives no number of readers.
abbrev pub processes_of : TowerSpec → ℕ
processes_of (Safe init) = 2
processes_of (Copies readers init) = readers + 1
processes_of (Regular readers init) = readers + 1
processes_of (Unary values readers init) = readers + 1
processes_of (Stamped values last) = 2
processes_of (Matrix processes values last_tag last_stamp) = processes

-- whether n is at least `least` and at most `most`
abbrev pub is_between : ℕ → ℕ → ℕ → Bool
is_between least most n = nat_le least n && nat_le n most

-- whether a matrix with these numbers has at most 512 codes, each one number for a stamp, a tag, a
-- process and a value, and at most 4,096 bits: one bit for each combination of a code, a writer and
-- a reader
abbrev pub is_small_matrix : ℕ → ℕ → ℕ → ℕ → Bool
is_small_matrix processes values last_tag last_stamp =
    let codes = (last_stamp + 1) * (last_tag + 1) * processes * values in
    nat_le codes MOST_VALUES && nat_le (processes * processes * codes) MOST_CELLS

-- whether each number of the tower is in its range, and the tower isn't too large: a stamped
-- register or a matrix has at most 512 codes, and a matrix has at most 4,096 bits
abbrev pub is_lawful_tower : TowerSpec → Bool
is_lawful_tower (Safe init) = nat_lt init 2
is_lawful_tower (Copies readers init) = is_between 1 MOST_READERS readers && nat_lt init 2
is_lawful_tower (Regular readers init) = is_between 1 MOST_READERS readers && nat_lt init 2
is_lawful_tower (Unary values readers init) = (is_between LEAST_VALUES MOST_VALUES values && is_between 1 MOST_READERS readers) && nat_lt init values
is_lawful_tower (Stamped values last) = (is_between LEAST_VALUES MOST_VALUES values && nat_lt last MOST_VALUES) && nat_le ((last + 1) * values) MOST_VALUES
is_lawful_tower (Matrix processes values last_tag last_stamp) =
    ((is_between LEAST_PROCESSES MOST_WRITERS processes && is_between LEAST_VALUES MOST_VALUES values) && nat_lt last_tag MOST_VALUES && nat_lt last_stamp MOST_VALUES)
    && is_small_matrix processes values last_tag last_stamp

-- whether an operation fits process `who`: in a matrix each process may read and may write each
-- value; in any other tower process 0 may write each value, and the other processes may read
abbrev pub suits : TowerSpec → ℕ → Op → Bool
suits (Matrix processes values last_tag last_stamp) who (op.Write v) = nat_lt who processes && nat_lt v values
suits (Matrix processes values last_tag last_stamp) who op.Read = nat_lt who processes
suits (Safe init) who o = one_writer 2 2 who o
suits (Copies readers init) who o = one_writer 2 (readers + 1) who o
suits (Regular readers init) who o = one_writer 2 (readers + 1) who o
suits (Unary values readers init) who o = one_writer values (readers + 1) who o
suits (Stamped values last) who o = one_writer values 2 who o

-- how many processes a tower has, and which operations fit each process
abbrev pub roles : TowerSpec → Roles
roles t = record { processes = processes_of t; suits = suits t }

-- whether a step fits the tower: its process exists and may make such a step, a value to be written
-- is one of the tower's values, and a choice is 0 or 1
abbrev pub fits : TowerSpec → Step → Bool
fits t s = fits_roles (roles t) s
