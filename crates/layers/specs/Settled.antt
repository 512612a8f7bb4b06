-- How a program runs to its next task or its end. This is what a layer does between two operations
-- of its parts, and it reads and sets only the layer's own words.
use Rattle.std.proofs.Common.{ℕ, ◌+◌}
use Rattle.safe_bit.specs.Memory.{Memory, word_at, with_word}
use Rattle.frames.specs.declared.types.Outcome.{Outcome}
use Rattle.frames.specs.declared.types.Next.TheVariants.{Done}
use Rattle.frames.specs.declared.types.Next.{Next}
use Rattle.layers.specs.declared.nested.Nested.{Nested}
use Rattle.layers.specs.declared.nested.Continuation.{Continuation}
use Rattle.layers.specs.declared.nested.Continuation.TheVariants as continuation
use Rattle.frames.specs.Behaviour.{Behaviour, Begun}
use Rattle.layers.specs.Nested.{Program, Ends, Asks, Reads, Sets, Table, asked, after_part, advance}

-- what a program has run to: its next task or its end, and the memory at that moment
pub record Settled (Task : Type 0) : Type 0 where
  pub continuation : Continuation Task
  pub memory : Memory

-- runs a program to its next task or its end; the layer's own words begin at word `base`
abbrev pub settled : {Task : Type 0} → ℕ → Program Task → Memory → Settled Task
settled base (Ends o) m = record { continuation = continuation.Ends o; memory = m }
settled base (Asks task k) m = record { continuation = continuation.Asks task; memory = m }
settled base (Reads i k) m = settled base (k (word_at (base + i) m)) m
settled base (Sets i x k) m = settled base k (with_word (base + i) x m)

-- the continuation is right: a task that `MayBeAt` allows, or an end with an outcome that `Answer`
-- allows
abbrev pub ContinuationIsSound : {Task : Type 0} → (Task → Type 0) → (Outcome → Type 0) → Continuation Task → Type 0
ContinuationIsSound MayBeAt Answer (continuation.Asks task) = MayBeAt task
ContinuationIsSound MayBeAt Answer (continuation.Ends o) = Answer o

-- an upper bound on the number of tasks that an operation can still begin once its program has run
-- to a continuation, if `left` gives an upper bound on the number of tasks that can follow a task
abbrev pub tasks_left : {Task : Type 0} → (Task → ℕ) → Continuation Task → ℕ
tasks_left left (continuation.Asks task) = left task + 1
tasks_left left (continuation.Ends o) = 0

-- what the layer's operation leads to after a step in which its task's part has reached `next`: the
-- layer's point or outcome, and its memory
abbrev pub follow_on : {Task P : Type 0} → Table Task → Behaviour P → Task → Next P → Memory → Begun (Nested Task P)
follow_on t b task next m = after_part (λ o n. advance t b (t.rest task o) n) task next m

-- what the layer's operation leads to from a continuation on: it ends, or it begins the task and
-- runs on until it waits for a bit action or ends
abbrev pub run_on : {Task P : Type 0} → Table Task → Behaviour P → Continuation Task → Memory → Begun (Nested Task P)
run_on t b (continuation.Ends o) m = record { next = Done o; memory = m }
run_on t b (continuation.Asks task) m = follow_on t b task (asked b (t.asks task) m).next (asked b (t.asks task) m).memory
