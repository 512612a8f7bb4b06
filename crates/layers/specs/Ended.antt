-- Which operations on a layer's parts end in a step.
use Rattle.std.specs.Prelude.{ℕ, ◌+◌, ◌==◌, Bool, true, false, List, [], ◌∷◌, Option, Some, None}
use Rattle.safe_bit.specs.Memory.{Memory, word_at, with_word}
use Rattle.frames.specs.declared.types.Op.{Op}
use Rattle.frames.specs.declared.types.Op.TheVariants as op
use Rattle.frames.specs.declared.types.Step.{Step}
use Rattle.frames.specs.declared.types.Step.TheVariants as step
use Rattle.frames.specs.declared.types.Outcome.{Outcome}
use Rattle.frames.specs.declared.types.Outcome.TheVariants.{Value, Written, Spent}
use Rattle.frames.specs.declared.types.Next.{Next}
use Rattle.frames.specs.declared.types.Next.TheVariants.{Pending, Done}
use Rattle.frames.specs.declared.running.Running.{Running}
use Rattle.frames.specs.Behaviour.{Behaviour}
use Rattle.frames.specs.Configuration.{running_at, is_stopped}
use Rattle.frames.specs.Steps.{process_of}
use Rattle.frames.specs.Recorded.{LoneConfiguration}
use Rattle.layers.specs.declared.nested.Nested.{Nested}
use Rattle.layers.specs.Nested.{Program, Ends, Asks, Reads, Sets, Table, own_words_start, asked, part_goes}

-- an ended operation on a part: the task that asked for it, and its outcome
pub record Ended (Task : Type 0) : Type 0 where
  pub task : Task
  pub outcome : Outcome

-- Which operations on parts end in a step, in order, from this task's operation on: none if this
-- operation is still pending; this operation alone if it is spent, since the program then ends;
-- otherwise this operation and those that `later` lists.
abbrev pub ended_after : {Task P : Type 0} → (Outcome → Memory → List (Ended Task)) → Task → Next P → Memory → List (Ended Task)
ended_after later task (Pending p) m = []
ended_after later task (Done (Spent layer)) m = record { task = task; outcome = Spent layer } ∷ []
ended_after later task (Done Written) m = record { task = task; outcome = Written } ∷ later Written m
ended_after later task (Done (Value v)) m = record { task = task; outcome = Value v } ∷ later (Value v) m

module _ {Task P : Type 0} (t : Table Task) (b : Behaviour P) where
  -- which operations on parts end while a program runs on to its next bit action or to its end
  abbrev pub ended_by : Program Task → Memory → List (Ended Task)
  ended_by (Ends o) m = []
  ended_by (Asks task k) m = ended_after (λ o n. ended_by (k o) n) task (asked b (t.asks task) m).next (asked b (t.asks task) m).memory
  ended_by (Reads i k) m = ended_by (k (word_at (own_words_start t b.size + i) m)) m
  ended_by (Sets i x k) m = ended_by k (with_word (own_words_start t b.size + i) x m)

  -- which operations on parts end in the step in which process `who` invokes operation o; none if
  -- `who` has an operation pending already
  abbrev pub ended_invoking : ℕ → Op → Option (Running (Nested Task P)) → Memory → List (Ended Task)
  ended_invoking who o None m = ended_by (t.program who o) m
  ended_invoking who o (Some r) m = []

  -- which operations on parts end in the step in which a process makes its next bit action; none if
  -- the process has no operation pending
  abbrev pub ended_going : Bool → Option (Running (Nested Task P)) → Memory → List (Ended Task)
  ended_going choice None m = []
  ended_going choice (Some r) m =
      let moved = part_goes b (t.asks r.point.task).part r.point.below choice m in
      ended_after (λ o n. ended_by (t.rest r.point.task o) n) r.point.task moved.next moved.memory

  -- which operations on parts end in a step of a process that hasn't stopped; `running` is the
  -- process's pending operation, if any
  abbrev pub ended_acting : Step → Option (Running (Nested Task P)) → Memory → List (Ended Task)
  ended_acting (step.Write p v) running m = ended_invoking p (op.Write v) running m
  ended_acting (step.Read p) running m = ended_invoking p op.Read running m
  ended_acting (step.Go p c) running m = ended_going (c == 1) running m
  ended_acting (step.Stop p) running m = []

  -- which operations on parts end in a step s of a process; none if the first argument says that
  -- the process has stopped
  abbrev pub ended_unless : Bool → Step → Option (Running (Nested Task P)) → Memory → List (Ended Task)
  ended_unless true s running m = []
  ended_unless false s running m = ended_acting s running m

  -- which operations on parts end in step s, if the layer is in configuration c before the step
  abbrev pub ended_in : LoneConfiguration (Nested Task P) → Step → List (Ended Task)
  ended_in c s = ended_unless (is_stopped (process_of s) c) s (running_at (process_of s) c) c.memory
