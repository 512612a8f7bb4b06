-- The events of steps, and the outcomes that end in them.
use Rattle.std.proofs.Common.{◌≡◌, ℕ, Bool, true, false, List, [], ◌∷◌, ◌++◌, Option, Some, None, refl, sym, ap, ◌∙◌, append_assoc, if◌then◌else◌, ◌==◌}
use Rattle.std.proofs.lemmas.List.{append-nil}
use Rattle.std.specs.Option.{option_to_list}
use Rattle.safe_bit.specs.Memory.{Memory}
use Rattle.frames.specs.declared.types.Op.{Op}
use Rattle.frames.specs.declared.types.Op.TheVariants as op
use Rattle.frames.specs.declared.types.Outcome.TheVariants.{Value, Written, Spent}
use Rattle.frames.specs.declared.types.Next.{Next}
use Rattle.frames.specs.declared.types.Next.TheVariants.{Pending, Done}
use Rattle.frames.specs.declared.types.Event.{Event}
use Rattle.frames.specs.declared.types.StepEvents.{StepEvents}
use Rattle.frames.specs.declared.types.Step.{Step}
use Rattle.frames.specs.declared.types.Step.TheVariants as step
use Rattle.frames.specs.declared.running.Running.{Running}
use Rattle.frames.specs.Behaviour.{Behaviour}
use Rattle.frames.specs.Steps.{process_of}
use Rattle.frames.specs.Recorded.{first_configuration, configuration_after}
use Rattle.frames.specs.Configuration.{Configuration, running_at, is_stopped, stepped, events_of, history, acting, acting_unless, invoking, going, return_of, chosen_of, in_order}
use Rattle.frames.proofs.Replayed.{replayed-push, history-push}
use Rattle.answers.specs.Questions.{events_in, all_events, events_after, outcomes_in, outcomes_by}

-- the outcomes in more events, and the events of one more step
pub outcomes_by_append : (p : ℕ) (xs ys : List Event) → outcomes_by p (xs ++ ys) ≡ outcomes_by p xs ++ outcomes_by p ys
outcomes_by_append p [] ys = refl
outcomes_by_append p (x ∷ xs) ys = ap (λ l. outcomes_in p x ++ l) (outcomes_by_append p xs ys) ∙ sym (append_assoc (outcomes_in p x) (outcomes_by p xs) (outcomes_by p ys))

all_events_push : (xs : List StepEvents) (y : StepEvents) → all_events (xs ++ y ∷ []) ≡ all_events xs ++ events_in y
all_events_push [] y = append-nil (events_in y)
all_events_push (x ∷ xs) y = ap (λ l. events_in x ++ l) (all_events_push xs y) ∙ sym (append_assoc (events_in x) (all_events xs) (events_in y))

module _ {P : Type 0} (b : Behaviour P) (value : ℕ) where
  -- the configuration and the events after one more step
  pub shown_more : (steps : List Step) (s : Step) → configuration_after b value (steps ++ s ∷ []) ≡ stepped b (configuration_after b value steps) s
  shown_more steps s = replayed-push b steps s (first_configuration b value)

  pub events_more : (steps : List Step) (s : Step) → events_after b value (steps ++ s ∷ []) ≡ events_after b value steps ++ events_in (events_of b (configuration_after b value steps) s)
  events_more steps s =
      ap all_events (history-push b steps s (first_configuration b value))
      ∙ all_events_push (history b (first_configuration b value) steps) (events_of b (configuration_after b value steps) s)

-- a step of process `who` ends no operation of another process r
module _ (r : ℕ) where
  return_other : {P : Type 0} (who : ℕ) (next : Next P) → (who == r) ≡ false → outcomes_by r (option_to_list (return_of who next)) ≡ []
  return_other who (Pending p) e = refl
  return_other who (Done (Value v)) e = ap (λ t. (if t then Value v ∷ [] else []) ++ []) e
  return_other who (Done Written) e = ap (λ t. (if t then Written ∷ [] else []) ++ []) e
  return_other who (Done (Spent layer)) e = ap (λ t. (if t then Spent layer ∷ [] else []) ++ []) e

  chosen_other : {P : Type 0} (who : ℕ) (chosen : Option (ℕ × Bool)) (next : Next P) → (who == r) ≡ false
      → outcomes_by r (events_in (in_order (chosen_of who chosen) (return_of who next))) ≡ []
  chosen_other who None next e = ap (outcomes_by r) (append-nil (option_to_list (return_of who next))) ∙ return_other who next e
  chosen_other who (Some bit) next e = return_other who next e

  going_other : {P : Type 0} (b : Behaviour P) (who : ℕ) (choice : Bool) (running : Option (Running P)) (m : Memory) → (who == r) ≡ false
      → outcomes_by r (events_in (going b who choice running m).events) ≡ []
  going_other b who choice None m e = refl
  going_other b who choice (Some run) m e = chosen_other who (b.goes run.point choice m).chosen (b.goes run.point choice m).next e

  invoking_other : {P : Type 0} (b : Behaviour P) (who : ℕ) (o : Op) (running : Option (Running P)) (m : Memory) → (who == r) ≡ false
      → outcomes_by r (events_in (invoking b who o running m).events) ≡ []
  invoking_other b who o None m e = return_other who (b.begins who o m).next e
  invoking_other b who o (Some run) m e = refl

  acting_other : {P : Type 0} (b : Behaviour P) (s : Step) (running : Option (Running P)) (m : Memory) → (process_of s == r) ≡ false
      → outcomes_by r (events_in (acting b s running m).events) ≡ []
  acting_other b (step.Write p v) running m e = invoking_other b p (op.Write v) running m e
  acting_other b (step.Read p) running m e = invoking_other b p op.Read running m e
  acting_other b (step.Go p c) running m e = going_other b p (c == 1) running m e
  acting_other b (step.Stop p) running m e = refl

  acting_unless_other : {P : Type 0} (stopped : Bool) (b : Behaviour P) (s : Step) (running : Option (Running P)) (m : Memory) → (process_of s == r) ≡ false
      → outcomes_by r (events_in (acting_unless stopped b s running m).events) ≡ []
  acting_unless_other true b s running m e = refl
  acting_unless_other false b s running m e = acting_other b s running m e

  pub events_other : {R P : Type 0} (b : Behaviour P) (c : Configuration R P) (s : Step) → (process_of s == r) ≡ false
      → outcomes_by r (events_in (events_of b c s)) ≡ []
  events_other b c s e = acting_unless_other (is_stopped (process_of s) c) b s (running_at (process_of s) c) c.memory e
