-- Clauses that claim that something exists: an example of each, and a near miss.
use Rattle.std.proofs.Common.{ℕ, ◌≡◌, ◌+◌, refl, arith}
use Rattle.frames.specs.declared.types.Op.{Op}
use Rattle.frames.specs.declared.types.Op.TheVariants.{Read}

-- the tasks of a layer whose processes only read: each process is in the task numbered one above it
abbrev MayBeAt : ℕ → Op → ℕ → Type 0
MayBeAt who o task = (o ≡ Read) × (task ≡ who + 1)

-- process 0 can be in task 1
after-holds : (who : ℕ) × ((o : Op) × MayBeAt who o 1)
after-holds = (0, (Read, (refl, refl)))

-- no process can be in task 0
after-fails : (who : ℕ) × ((o : Op) × MayBeAt who o 0) → ⊥
after-fails h = omega (arith, h.1.1.1)
