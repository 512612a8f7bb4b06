-- A bit action that reports no choice leads to the same state with either choice.
use Rattle.std.proofs.Common.{◌≡◌, ℕ, ◌+◌, ◌/◌, ◌%◌, Bool, true, false, Option, None, Some, refl, sym, ap, subst, ◌∙◌, true≢false, if◌then◌else◌, arith}
use Rattle.std.specs.Prelude.{◌&&◌, MatchOption, ⊤}
use Rattle.std.proofs.lemmas.Option.{same_Some}
use Rattle.safe_bit.specs.Memory.{Memory}
use Rattle.frames.specs.declared.types.Op.{Op}
use Rattle.frames.specs.declared.types.Next.{Next}
use Rattle.frames.specs.declared.types.Step.{Step}
use Rattle.frames.specs.declared.types.Step.TheVariants as step
use Rattle.frames.specs.declared.running.Running.{Running}
use Rattle.frames.specs.Behaviour.{Behaviour, IsLawful, Moved}
use Rattle.frames.specs.Configuration.{Acted, acted, acting_unless, chosen_of, events_of, fits_step, going, in_order, is_enabled, is_stopped, put_acted, return_of, running_at}
use Rattle.frames.specs.StoredConfiguration.{IsConfiguration}
use Rattle.answers.specs.declared.question.Question.{Question}
use Rattle.answers.specs.States.{StateOf, advanced, has_choice, moved, moved_if, step_by, with_events}

-- if no choice is reported, none is made
none_chosen : {P : Type 0} (who : ℕ) (chosen : Option (ℕ × Bool)) (next : Next P) → has_choice (in_order (chosen_of who chosen) (return_of who next)) ≡ false → chosen ≡ None
none_chosen who None next e = refl
none_chosen who (Some bit) next e = absurd (true≢false e)

module _ {P : Type 0} (b : Behaviour P) (Holds : Memory → Type 0) (Reaches : ℕ → Op → P → Type 0) (lawful : IsLawful b Holds Reaches) where
  -- a bit action that makes no choice with choice 0 acts alike with choice 1
  going_alike : (who : ℕ) (slot : Option (Running P)) (m : Memory) → Holds m → MatchOption slot ⊤ (λ r. Reaches who r.op r.point)
      → has_choice (going b who false slot m).events ≡ false → going b who true slot m ≡ going b who false slot m
  going_alike who None m h there e = refl
  going_alike who (Some r) m h there e =
      ap (λ (moved : Moved P). acted who r.op (chosen_of who moved.chosen) moved.next moved.memory)
      (lawful.unused_choice who r.op r.point m h there (none_chosen who (b.goes r.point false m).chosen (b.goes r.point false m).next e))

  acting_alike : (stopped : Bool) (p : ℕ) (slot : Option (Running P)) (m : Memory) → Holds m → MatchOption slot ⊤ (λ r. Reaches p r.op r.point)
      → has_choice (acting_unless stopped b (step.Go p 0) slot m).events ≡ false → acting_unless stopped b (step.Go p 1) slot m ≡ acting_unless stopped b (step.Go p 0) slot m
  acting_alike true p slot m h there e = refl
  acting_alike false p slot m h there e = going_alike p slot m h there e

  module _ {R : Type 0} (x : StateOf R P) (k : IsConfiguration b Holds Reaches x.configuration) where
    advanced_alike : (p : ℕ) → has_choice (events_of b x.configuration (step.Go p 0)) ≡ false → advanced b x (step.Go p 1) ≡ advanced b x (step.Go p 0)
    advanced_alike p e =
        ap (λ (done : Acted P). record { configuration = put_acted p done x.configuration; answers = with_events p done.events x.answers })
        (acting_alike (is_stopped p x.configuration) p (running_at p x.configuration) x.configuration.memory k.holds (k.reached p) e)

    by_test : (p : ℕ) (y : StateOf R P) (t : Bool) → t ≡ true → y ≡ advanced b x (step.Go p 0) → has_choice (events_of b x.configuration (step.Go p 0)) ≡ false
        → (if t then Some (advanced b x (step.Go p 1)) else None) ≡ Some y
    by_test p y true h made e = ap Some (advanced_alike p e ∙ sym made)
    by_test p y false h made e = absurd (true≢false (sym h))

    by_step : (p : ℕ) (y : StateOf R P) (s : Step) → step.Go p 0 ≡ s → (fits_step b s && is_enabled x.configuration s) ≡ true → y ≡ advanced b x s → has_choice (events_of b x.configuration s) ≡ false
        → moved_if b x (Some (step.Go p 1)) ≡ Some y
    by_step p y s same =
        subst (λ s. (fits_step b s && is_enabled x.configuration s) ≡ true → y ≡ advanced b x s → has_choice (events_of b x.configuration s) ≡ false → moved_if b x (Some (step.Go p 1)) ≡ Some y) same
        (λ h made e. by_test p y (fits_step b (step.Go p 0) && is_enabled x.configuration (step.Go p 0)) h made e)

    -- if the label of a bit action with choice 0 leads to y, and its step reports no choice, so
    -- does the label with choice 1
    pub moved_again : (q : Question) (y : StateOf R P) (l : ℕ) (s : Step) → l % 4 ≡ 0 → step_by q x.answers (l / 4) (l % 4) ≡ Some s
        → (fits_step b s && is_enabled x.configuration s) ≡ true → y ≡ advanced b x s → has_choice (events_of b x.configuration s) ≡ false → moved b q x (l + 1) ≡ Some y
    moved_again q y l s zero names h made e =
        let p : (l + 1) / 4 ≡ l / 4 = omega (arith, zero) in
        let one : (l + 1) % 4 ≡ 1 = omega (arith, zero) in
        let same : step.Go (l / 4) 0 ≡ s = same_Some (step.Go (l / 4) 0) s (ap (step_by q x.answers (l / 4)) (sym zero) ∙ names) in
        (λ i. moved_if b x (step_by q x.answers (p i) (one i))) ∙ by_step (l / 4) y s same h made e
