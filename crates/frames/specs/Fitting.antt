-- Which steps fit a register. This depends on the number of processes, and on the operations that
-- fit each process.
use Rattle.std.specs.Prelude.{ℕ, Bool, ◌&&◌, nat_lt}
use Rattle.schedule_steps.specs.declared.types.Op.{Op}
use Rattle.schedule_steps.specs.declared.types.Op.TheVariants as op
use Rattle.schedule_steps.specs.declared.types.Step.{Step}
use Rattle.schedule_steps.specs.declared.types.Step.TheVariants as step
use Rattle.frames.specs.Behaviour.{Behaviour}

-- what decides which steps fit: the number of processes, and which operations fit each process
pub record Roles : Type 0 where
  pub processes : ℕ
  pub suits : ℕ → Op → Bool

-- a register's number of processes, and which operations fit each process
abbrev pub roles_of : {P : Type 0} → Behaviour P → Roles
roles_of b = record { processes = b.processes; suits = b.suits }

-- Whether a step fits a register with these roles. An invocation fits if its operation fits its
-- process; for a write, this can depend on the value. A bit action fits if its process exists and
-- the choice is 0 or 1. A stop fits if its process exists.
abbrev pub fits_roles : Roles → Step → Bool
fits_roles roles (step.Write p v) = roles.suits p (op.Write v)
fits_roles roles (step.Read p) = roles.suits p op.Read
fits_roles roles (step.Go p c) = nat_lt p roles.processes && nat_lt c 2
fits_roles roles (step.Stop p) = nat_lt p roles.processes
