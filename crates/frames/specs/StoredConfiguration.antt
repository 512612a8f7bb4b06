-- What always holds of a configuration, whose processes are stored as stacks of frames and stop
-- marks.
use Rattle.std.specs.Prelude.{◌≡◌, ℕ, Bool, false, List, [], length, map, slice_index_or, Option, MatchOption, ⊤}
use Rattle.safe_bit.specs.Memory.{Memory}
use Rattle.schedule_steps.specs.declared.types.Op.{Op}
use Rattle.frames.specs.declared.types.Frame.{Frame}
use Rattle.frames.specs.declared.config.ProcessState.{ProcessState}
use Rattle.frames.specs.Behaviour.{Behaviour}
use Rattle.frames.specs.Configuration.{Configuration, running_at}
use Rattle.frames.specs.Flat.{running_from, stack_of}

-- a process that has no operation pending and hasn't stopped
abbrev pub idle : ProcessState
idle = record { stack = []; stopped = false }

-- each process's stack of frames
abbrev pub stacks_of : List ProcessState → List (List Frame)
stacks_of = map (λ p. p.stack)

-- each process's stop mark: whether the process has stopped
abbrev pub marks_of : List ProcessState → List Bool
marks_of = map (λ p. p.stopped)

-- the configuration with this register and memory, whose processes have these stacks of frames and
-- stop marks; `find` gives the point of a process's pending operation from its stack
abbrev pub stacked_configuration : {R P : Type 0} → (ℕ → List Frame → Option P) → R → Memory → List (List Frame) → List Bool → Configuration R P
stacked_configuration find r m stacks stopped = record { register = r; memory = m; running = running_from find 0 stacks; stopped = stopped }

-- The register's memory satisfies `Holds`. For each process there is a mark that says whether it
-- has stopped, and each process is idle or has an operation pending at a point that it can reach.
pub record IsConfiguration {R P : Type 0} (b : Behaviour P) (Holds : Memory → Type 0) (Reaches : ℕ → Op → P → Type 0) (c : Configuration R P) : Type 0 where
  pub holds : Holds c.memory
  pub each : length c.running ≡ b.processes
  pub each_mark : length c.stopped ≡ b.processes
  pub reached : (p : ℕ) → MatchOption (running_at p c) ⊤ (λ r. Reaches p r.op r.point)

-- c satisfies `IsConfiguration`, and each process's stack has just the frames of its pending
-- operation (none if the process is idle)
pub record IsFlat {R P : Type 0} (b : Behaviour P) (Holds : Memory → Type 0) (Reaches : ℕ → Op → P → Type 0) (c : Configuration R P) (stacks : List (List Frame)) : Type 0 where
  pub configuration : IsConfiguration b Holds Reaches c
  pub flat : (p : ℕ) → slice_index_or stacks p [] ≡ stack_of b (running_at p c)
