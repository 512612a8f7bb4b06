-- Laws of a layer that runs on in its own memory, from a continuation or after a part's step.
use Rattle.std.proofs.Common.{◌≡◌, ℕ, ◌≤◌, Bool, sym, subst}
use Rattle.safe_bit.specs.declared.Place.{Place}
use Rattle.safe_bit.specs.Memory.{Memory}
use Rattle.safe_bit.specs.Parts.{with_part}
use Rattle.safe_bit.specs.laws.Parts.{with_part-with_part}
use Rattle.frames.specs.declared.types.Op.{Op}
use Rattle.frames.specs.declared.types.Outcome.{Outcome}
use Rattle.frames.specs.declared.types.Next.{Next}
use Rattle.layers.specs.declared.nested.Continuation.{Continuation}
use Rattle.layers.specs.declared.nested.Continuation.TheVariants as continuation
use Rattle.frames.specs.Behaviour.{Answers, ReachedOrAnswered}
use Rattle.layers.specs.Nested.{layer_size, own_words_start, asked, part_goes, advance}
use Rattle.layers.specs.Sound.{IsNotSpent, LayerHolds}
use Rattle.layers.specs.laws.Nested.{IsWell, asks_fit, rest_sound, after_part_well, advance_well, holds_with_part}
use Rattle.layers.specs.Settled.{settled, ContinuationIsSound, tasks_left, run_on, follow_on}
use Rattle.layers.specs.laws.Settled.{settled_falls}
use Rattle.layers.specs.InPlace.{LayerLies}
use Rattle.layers.specs.laws.InPlace.{lies_with}
use Rattle.layers.specs.laws.Over.{LayerOver}

module _ {Task P : Type 0} (l : LayerOver Task P) where
  -- if a step has brought a task's part to a point that it can reach, or to an outcome that suits
  -- its operation, `IsWell` holds of what running the layer on from memory that satisfies
  -- `LayerHolds` leads to
  pub follow_on_well : (who : ℕ) (o : Op) (task : Task) (next : Next P) (m : Memory) → LayerHolds l.table l.below l.Holds m → l.MayBeAt who o task
      → ReachedOrAnswered (l.Reaches (l.table.asks task).who (l.table.asks task).op) (Answers l.below.values (l.table.asks task).op) next
      → IsWell l who o (follow_on l.table l.below task next m)
  follow_on_well who o task next m h at_task below =
      after_part_well l who o (λ outcome n. advance l.table l.below (l.table.rest task outcome) n) task next m h at_task below
      (λ outcome answers goes_on. advance_well l who o (l.table.rest task outcome) m
      (rest_sound l who o task outcome at_task answers goes_on) h)

  -- once the operation that a task asks for is invoked, the task's part is at a point that it can
  -- reach, or has ended with an outcome that suits this operation
  pub task_asked_reached : (who : ℕ) (o : Op) (task : Task) (m : Memory) → LayerHolds l.table l.below l.Holds m → l.MayBeAt who o task
      → ReachedOrAnswered (l.Reaches (l.table.asks task).who (l.table.asks task).op) (Answers l.below.values (l.table.asks task).op) (asked l.below (l.table.asks task) m).next
  task_asked_reached who o task m h at_task =
      let fit = asks_fit l who o task at_task in
      (l.lawful.begins_well (l.table.asks task).who (l.table.asks task).op _ (h.parts (l.table.asks task).part fit.0) fit.1).may_be_at

  pub task_asked_holds : (who : ℕ) (o : Op) (task : Task) (m : Memory) → LayerHolds l.table l.below l.Holds m → l.MayBeAt who o task → LayerHolds l.table l.below l.Holds (asked l.below (l.table.asks task) m).memory
  task_asked_holds who o task m h at_task =
      let fit = asks_fit l who o task at_task in
      holds_with_part l (l.table.asks task).part _ m fit.0 (l.lawful.begins_well (l.table.asks task).who (l.table.asks task).op _ (h.parts (l.table.asks task).part fit.0) fit.1).holds h

  pub task_goes_reached : (who : ℕ) (o : Op) (task : Task) (p : P) (choice : Bool) (m : Memory) → LayerHolds l.table l.below l.Holds m → l.MayBeAt who o task → l.Reaches (l.table.asks task).who (l.table.asks task).op p
      → ReachedOrAnswered (l.Reaches (l.table.asks task).who (l.table.asks task).op) (Answers l.below.values (l.table.asks task).op) (part_goes l.below (l.table.asks task).part p choice m).next
  task_goes_reached who o task p choice m h at_task there =
      let fit = asks_fit l who o task at_task in
      (l.lawful.goes_well (l.table.asks task).who (l.table.asks task).op p choice _ (h.parts (l.table.asks task).part fit.0) there).may_be_at

  pub task_goes_holds : (who : ℕ) (o : Op) (task : Task) (p : P) (choice : Bool) (m : Memory) → LayerHolds l.table l.below l.Holds m → l.MayBeAt who o task → l.Reaches (l.table.asks task).who (l.table.asks task).op p
      → LayerHolds l.table l.below l.Holds (part_goes l.below (l.table.asks task).part p choice m).memory
  task_goes_holds who o task p choice m h at_task there =
      let fit = asks_fit l who o task at_task in
      holds_with_part l (l.table.asks task).part _ m fit.0 (l.lawful.goes_well (l.table.asks task).who (l.table.asks task).op p choice _ (h.parts (l.table.asks task).part fit.0) there).holds h

  -- if a continuation suits the layer's operation, and the layer's memory satisfies `LayerHolds`,
  -- then `IsWell` holds of what running on from the continuation leads to
  pub run_on_well : (who : ℕ) (o : Op) (at_turn : Continuation Task) (m : Memory) → ContinuationIsSound (l.MayBeAt who o) (Answers l.table.values o) at_turn → LayerHolds l.table l.below l.Holds m
      → IsWell l who o (run_on l.table l.below at_turn m)
  run_on_well who o (continuation.Ends outcome) m at_task h = record { holds = h; may_be_at = at_task }
  run_on_well who o (continuation.Asks task) m at_task h =
      follow_on_well who o task (asked l.below (l.table.asks task) m).next (asked l.below (l.table.asks task) m).memory (task_asked_holds who o task m h at_task) at_task (task_asked_reached who o task m h at_task)

  -- after a task has ended, the bound on the number of tasks that the layer's operation can still
  -- begin is at most what `left` gives for the ended task
  pub rest_left : (who : ℕ) (o : Op) (task : Task) (outcome : Outcome) (m : Memory) → l.MayBeAt who o task
      → Answers l.below.values (l.table.asks task).op outcome → IsNotSpent outcome
      → tasks_left l.left (settled (own_words_start l.table l.below.size) (l.table.rest task outcome) m).continuation ≤ l.left task
  rest_left who o task outcome m at_task answers goes_on =
      settled_falls l.table (l.MayBeAt who o) (Answers l.table.values o) l.left (own_words_start l.table l.below.size) (l.left task) (l.table.rest task outcome) m
      (l.sound.rest_falls who o task outcome at_task (subst (λ n. Answers n (l.table.asks task).op outcome) l.fit.same_values answers) goes_on)

  -- replacing the layer's memory by `mid` and then by `late` has the same effect as replacing it by
  -- `late`
  pub with_part_twice : (at : Place) (m : Memory) → LayerLies l.table l.below l.Holds at m → (mid late : Memory) → LayerHolds l.table l.below l.Holds mid → LayerHolds l.table l.below l.Holds late
      → with_part at late (with_part at mid m) ≡ with_part at late m
  with_part_twice at m lies mid late h h' = with_part-with_part at (layer_size l.table l.below.size) late mid m h'.size h.size lies.inside

  -- if only the layer's memory changes in the store, and the layer's new memory satisfies
  -- `LayerHolds`, then the layer still lies at its place
  pub lies_after : (at : Place) (m : Memory) → LayerLies l.table l.below l.Holds at m → (mid first : Memory) → first ≡ with_part at mid m → LayerHolds l.table l.below l.Holds mid → LayerLies l.table l.below l.Holds at first
  lies_after at m lies mid first e h = subst (LayerLies l.table l.below l.Holds at) (sym e) (lies_with l at m lies mid h)
