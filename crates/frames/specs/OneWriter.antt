-- Registers of one writer: process 0 writes, and every other process reads.
use Rattle.std.proofs.Common.{◌≡◌, ℕ, Bool, true}
use Rattle.std.specs.Prelude.{◌&&◌, ◌==◌, nat_lt, nat_le}
use Rattle.schedule_steps.specs.declared.types.Op.{Op}
use Rattle.schedule_steps.specs.declared.types.Op.TheVariants as op
use Rattle.frames.specs.Behaviour.{Behaviour}

-- whether an operation fits process `who` of a register with one writer: process 0 writes each
-- value below `values`, and each other process below `processes` reads
abbrev pub one_writer : ℕ → ℕ → ℕ → Op → Bool
one_writer values processes who (op.Write v) = who == 0 && (nat_lt v values && nat_lt 0 processes)
one_writer values processes who op.Read = nat_le 1 who && nat_lt who processes

-- only process 0 writes, and only the other processes read
abbrev pub HasOneWriter : {P : Type 0} → Behaviour P → Type 0
HasOneWriter b = (who : ℕ) (o : Op) → b.suits who o ≡ true → one_writer b.values b.processes who o ≡ true
