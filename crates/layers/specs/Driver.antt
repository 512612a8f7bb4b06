-- Short names, used in the contracts of the calls that run a layer in place: for the layer, for its
-- own memory at a place in a store, and for the effect of its programs on that memory.
use Rattle.std.specs.Prelude.{ℕ, [], ◌∷◌, List, Bool}
use Rattle.std.specs.declared.cmp.PartialEq as comparison
use Rattle.safe_bit.specs.declared.Place.{Place}
use Rattle.safe_bit.specs.Memory.{Memory}
use Rattle.frames.specs.declared.register.Behaves as behaves
use Rattle.frames.specs.declared.types.Frame.{Frame}
use Rattle.frames.specs.declared.types.Op.{Op}
use Rattle.frames.specs.declared.types.Outcome.{Outcome}
use Rattle.frames.specs.declared.types.Next.TheVariants.{Done}
use Rattle.frames.specs.Behaviour.{Behaviour, Begun, Moved, Answers}
use Rattle.frames.specs.Flat.{HasFramesFrom}
use Rattle.layers.specs.declared.construction.Rules as rules
use Rattle.layers.specs.declared.layered.Layered.{Layered}
use Rattle.layers.specs.declared.nested.Continuation.{Continuation}
use Rattle.layers.specs.declared.nested.Nested.{Nested}
use Rattle.layers.specs.Nested as nested
use Rattle.layers.specs.Nested.{Table, layered, asked, part_goes, gathered}
use Rattle.layers.specs.Sound.{LayerHolds, LayerReaches}
use Rattle.layers.specs.Settled.{Settled, settled, ContinuationIsSound, run_on, follow_on}
use Rattle.layers.specs.InPlace.{own, LayerLies}
use Rattle.layers.specs.Flat as flat

module _ {L S Task P : Type 0} {R : rules.Ghosts L Task} {E : comparison.Ghosts Task} {B : behaves.Ghosts S P} {F : comparison.Ghosts P}
    (r : Layered L S Task P R E B F) where
  -- the layer's rules
  abbrev pub table_of : Table Task
  table_of = R.table r.layer

  -- the register below the layer
  abbrev pub below_of : Behaviour P
  below_of = B.behaviour r.below

  -- the layer as a register
  abbrev pub behaviour : Behaviour (Nested Task P)
  behaviour = layered table_of below_of

  -- the layer's memory (`own`), if the layer lies at place `at` in memory m
  abbrev pub own_memory : Place → Memory → Memory
  own_memory at m = own table_of below_of at m

  -- the index in the layer's memory of the layer's first own word; the own words follow all words
  -- of the parts
  abbrev pub first_own_word : ℕ
  first_own_word = nested.own_words_start table_of below_of.size

  -- the layer's memory m has the right size, each part's memory in it satisfies `Kept`, and the
  -- layer's own words are in range
  abbrev pub Holds : (Memory → Type 0) → Memory → Type 0
  Holds Kept m = LayerHolds table_of below_of Kept m

  -- the layer lies at place `at` in memory m: the layer's memory there is inside m, ends below
  -- 2^32, and satisfies `Holds Kept`; `Kept` is what each part's memory has to satisfy
  abbrev pub Lies : (Memory → Type 0) → Place → Memory → Type 0
  Lies Kept at m = LayerLies table_of below_of Kept at m

  -- the initial memory of all parts together, given the layer's initial value
  abbrev pub all_first_parts : ℕ → Memory
  all_first_parts value = nested.first_parts table_of below_of value table_of.parts

  -- the initial values of the layer's own words, given the layer's initial value
  abbrev pub first_words : ℕ → List ℕ
  first_words value = gathered (λ k. table_of.first_word value k ∷ []) table_of.words

  -- the frames of an operation of the layer, if it is in this task and the task's part is at point
  -- p
  abbrev pub frames_in_task : Task → P → List Frame
  frames_in_task task p = flat.task_frames table_of below_of task p

  -- process `who` is in `task` of operation o while the task's part is at point p, and the frames
  -- of `stack` from index `first` on are the frames of this operation
  abbrev pub IsInTask : (ℕ → Op → Task → Type 0) → (ℕ → Op → P → Type 0) → ℕ → ℕ → List Frame → Op → Task → P → Type 0
  IsInTask MayBeAt Reaches who first stack o task p =
      HasFramesFrom behaviour.frames (LayerReaches table_of MayBeAt Reaches) who first stack o (record { task = task; below = p })

  -- for some process and some operation, the continuation is a task that the process can be in
  -- during this operation, or an end with an outcome that suits this operation
  abbrev pub ContinuesWell : (ℕ → Op → Task → Type 0) → Continuation Task → Type 0
  ContinuesWell MayBeAt c = (who : ℕ) × ((o : Op) × ContinuationIsSound (MayBeAt who o) (Answers table_of.values o) c)

  -- an outcome of a task's part suits the operation that the task asks for
  abbrev pub EndsTask : Task → Outcome → Type 0
  EndsTask task outcome = Answers below_of.values (table_of.asks task).op outcome

  -- the result of invoking the operation that a task asks for: the part's point or outcome, and the
  -- layer's memory with the part's changes
  abbrev pub asked_part : Task → Memory → Begun P
  asked_part task m = asked below_of (table_of.asks task) m

  -- what the next bit action of the task's part, which is at point p, leads to: the part's new
  -- point or outcome, the choice made if a hit read ends, and the layer's memory
  abbrev pub moved_part : Task → P → Bool → Memory → Moved P
  moved_part task p choice m = part_goes below_of (table_of.asks task).part p choice m

  -- what the program of operation o by process `who` reaches from its beginning: its first task or
  -- its end, and the memory then
  abbrev pub started : ℕ → Op → Memory → Settled Task
  started who o m = settled first_own_word (table_of.program who o) m

  -- what a program reaches after `task` has ended with this outcome: its next task or its end, and
  -- the memory then
  abbrev pub settled_after : Task → Outcome → Memory → Settled Task
  settled_after task outcome m = settled first_own_word (table_of.rest task outcome) m

  -- what the layer's operation leads to if it runs on from a continuation until it waits for a bit
  -- action or ends: its point or outcome, and the layer's memory
  abbrev pub run_from : Continuation Task → Memory → Begun (Nested Task P)
  run_from c m = run_on table_of below_of c m

  -- what the layer's operation leads to if it runs on, after `task` has ended with this outcome,
  -- until it waits for a bit action or ends: its point or outcome, and the layer's memory
  abbrev pub run_after : Task → Outcome → Memory → Begun (Nested Task P)
  run_after task outcome m = follow_on table_of below_of task (Done outcome) m
