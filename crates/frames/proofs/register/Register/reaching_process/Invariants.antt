use Rattle.std.proofs.Common.{ℕ, ◌<◌}
use Rattle.schedule_steps.specs.declared.types.Op.{Op}
use Rattle.frames.proofs.register.Register.reaching_process.Given as goal

-- no process before this one can have the operation pending
abbrev pub invariant-loop-who : goal.invariant-loop-who
invariant-loop-who g l = (w : ℕ) (o : Op) → w < l.who → g.Self.Register.Reaches l.self w o l.pending → ⊥
