-- Which events are allowed, and what the steps that a state's moves make record.
use Rattle.std.proofs.Common.{◌≡◌, ℕ, Bool, true, false, List, [], ◌∷◌, ◌++◌, length, Option, Some, None, option_map, refl, sym, subst, append_assoc, true≢false}
use Rattle.std.specs.Prelude.{⊤, if◌then◌else◌, ◌==◌, ◌&&◌, not, is_none}
use Rattle.std.proofs.lemmas.List.{append-nil}
use Rattle.std.proofs.lemmas.Option.{none-some, same_Some}
use Rattle.std.specs.Option.{option_to_list}
use Rattle.safe_bit.specs.Memory.{Memory}
use Rattle.frames.specs.declared.types.Op.{Op}
use Rattle.frames.specs.declared.types.Op.TheVariants as op
use Rattle.frames.specs.declared.types.Outcome.{Outcome}
use Rattle.frames.specs.declared.types.Outcome.TheVariants.{Value, Written, Spent}
use Rattle.frames.specs.declared.types.Next.{Next}
use Rattle.frames.specs.declared.types.Next.TheVariants.{Pending, Done}
use Rattle.frames.specs.declared.types.Event.{Event}
use Rattle.frames.specs.declared.types.Step.{Step}
use Rattle.frames.specs.declared.types.Step.TheVariants as step
use Rattle.frames.specs.declared.running.Running.{Running}
use Rattle.frames.specs.Behaviour.{Behaviour}
use Rattle.frames.specs.Steps.{process_of, invoking_step}
use Rattle.frames.specs.Configuration.{Configuration, running_at, is_stopped, events_of, is_ready, is_enabled, acting, acting_unless, invoking, going, return_of, chosen_of, in_order}
use Rattle.answers.specs.declared.question.Question.{Question}
use Rattle.answers.specs.Questions.{events_in, outcomes_by, next_of, process_may_stop, AreAllowed}
use Rattle.answers.specs.States.{ended_counts, step_by}

module _ (q : Question) where
  -- events are allowed exactly if their first ones are, and then the others after these
  pub allowed_append : (before xs ys : List Event) → AreAllowed q before xs → AreAllowed q (before ++ xs) ys → AreAllowed q before (xs ++ ys)
  allowed_append before [] ys a h = subst (λ l. AreAllowed q l ys) (append-nil before) h
  allowed_append before (x ∷ xs) ys a h =
      (a.0, allowed_append (before ++ x ∷ []) xs ys a.1 (subst (λ l. AreAllowed q l ys) (sym (append_assoc before (x ∷ []) xs)) h))

  pub allowed_later : (before xs ys : List Event) → AreAllowed q before (xs ++ ys) → AreAllowed q (before ++ xs) ys
  allowed_later before [] ys h = subst (λ l. AreAllowed q l ys) (sym (append-nil before)) h
  allowed_later before (x ∷ xs) ys h = subst (λ l. AreAllowed q l ys) (append_assoc before (x ∷ []) xs) (allowed_later (before ++ x ∷ []) xs ys h.1)

  -- a process may make the step, if each process r has ended `ended r` of its operations
  abbrev pub IsPermitted : (ℕ → ℕ) → Step → Type 0
  IsPermitted ended (step.Write p v) = next_of q ended p ≡ Some (op.Write v)
  IsPermitted ended (step.Read p) = next_of q ended p ≡ Some op.Read
  IsPermitted ended (step.Go p c) = ⊤
  IsPermitted ended (step.Stop p) = process_may_stop q p ≡ true

  -- the invocation of the next operation is permitted
  invocation_permitted : (ended : ℕ → ℕ) (p : ℕ) (o : Op) → next_of q ended p ≡ Some o → IsPermitted ended (invoking_step p o)
  invocation_permitted ended p (op.Write v) h = h
  invocation_permitted ended p op.Read h = h

  -- `named_permitted`, by the next operation, by whether the process may stop, and by the kind
  by_next : (ended : ℕ → ℕ) (p : ℕ) (n : Option Op) (s : Step) → next_of q ended p ≡ n → option_map (invoking_step p) n ≡ Some s → IsPermitted ended s
  by_next ended p None s e h = absurd (none-some s h)
  by_next ended p (Some o) s e h = subst (IsPermitted ended) (same_Some (invoking_step p o) s h) (invocation_permitted ended p o e)

  by_stop : (ended : ℕ → ℕ) (p : ℕ) (t : Bool) (s : Step) → process_may_stop q p ≡ t → (if t then Some (step.Stop p) else None) ≡ Some s → IsPermitted ended s
  by_stop ended p true s e h = subst (IsPermitted ended) (same_Some (step.Stop p) s h) e
  by_stop ended p false s e h = absurd (none-some s h)

  by_kind : (ended : ℕ → ℕ) (p : ℕ) (a b c : Bool) (s : Step)
      → (if a then Some (step.Go p 0) else if b then Some (step.Go p 1) else if c then option_map (invoking_step p) (next_of q ended p) else if process_may_stop q p then Some (step.Stop p) else None) ≡ Some s
      → IsPermitted ended s
  by_kind ended p true b c s h = subst (IsPermitted ended) (same_Some (step.Go p 0) s h) tt
  by_kind ended p false true c s h = subst (IsPermitted ended) (same_Some (step.Go p 1) s h) tt
  by_kind ended p false false true s h = by_next ended p (next_of q ended p) s refl h
  by_kind ended p false false false s h = by_stop ended p (process_may_stop q p) s refl h

  -- a step that a label names is permitted
  pub named_permitted : (answers : List (List Outcome)) (p kind : ℕ) (s : Step) → step_by q answers p kind ≡ Some s → IsPermitted (ended_counts answers) s
  named_permitted answers p kind s h = by_kind (ended_counts answers) p (kind == 0) (kind == 1) (kind == 2) s h

  -- an operation's return is always allowed
  return_allowed : {P : Type 0} (before : List Event) (who : ℕ) (next : Next P) → AreAllowed q before (option_to_list (return_of who next))
  return_allowed before who (Pending p) = tt
  return_allowed before who (Done (Value v)) = (tt, tt)
  return_allowed before who (Done Written) = (tt, tt)
  return_allowed before who (Done (Spent layer)) = (tt, tt)

  -- so are the report of a choice and then a return, and all events of a bit action
  chosen_allowed : {P : Type 0} (before : List Event) (who : ℕ) (chosen : Option (ℕ × Bool)) (next : Next P)
      → AreAllowed q before (events_in (in_order (chosen_of who chosen) (return_of who next)))
  chosen_allowed before who None next = subst (AreAllowed q before) (sym (append-nil (option_to_list (return_of who next)))) (return_allowed before who next)
  chosen_allowed before who (Some bit) next = (tt, return_allowed _ who next)

  going_allowed : {P : Type 0} (b : Behaviour P) (before : List Event) (who : ℕ) (choice : Bool) (running : Option (Running P)) (m : Memory)
      → AreAllowed q before (events_in (going b who choice running m).events)
  going_allowed b before who choice None m = (tt, tt)
  going_allowed b before who choice (Some run) m = chosen_allowed before who (b.goes run.point choice m).chosen (b.goes run.point choice m).next

  module _ (before : List Event) where
    -- how many operations each process has ended in the events `before`
    abbrev pub ended_before : ℕ → ℕ
    ended_before r = length (outcomes_by r before)

    -- the events of a permitted step are allowed: of an invocation, of any step of a process that
    -- hasn't stopped, and of any step
    invoking_allowed : {P : Type 0} (b : Behaviour P) (who : ℕ) (o : Op) (running : Option (Running P)) (m : Memory)
        → next_of q ended_before who ≡ Some o → AreAllowed q before (events_in (invoking b who o running m).events)
    invoking_allowed b who o None m h = (h, return_allowed _ who (b.begins who o m).next)
    invoking_allowed b who o (Some run) m h = (tt, tt)

    acting_allowed : {P : Type 0} (b : Behaviour P) (s : Step) (running : Option (Running P)) (m : Memory)
        → IsPermitted ended_before s → AreAllowed q before (events_in (acting b s running m).events)
    acting_allowed b (step.Write p v) running m h = invoking_allowed b p (op.Write v) running m h
    acting_allowed b (step.Read p) running m h = invoking_allowed b p op.Read running m h
    acting_allowed b (step.Go p c) running m h = going_allowed b before p (c == 1) running m
    acting_allowed b (step.Stop p) running m h = (h, tt)

    acting_unless_allowed : {P : Type 0} (stopped : Bool) (b : Behaviour P) (s : Step) (running : Option (Running P)) (m : Memory)
        → IsPermitted ended_before s → AreAllowed q before (events_in (acting_unless stopped b s running m).events)
    acting_unless_allowed true b s running m h = (tt, tt)
    acting_unless_allowed false b s running m h = acting_allowed b s running m h

    pub permitted_allowed : {R P : Type 0} (b : Behaviour P) (c : Configuration R P) (s : Step) → IsPermitted ended_before s
        → AreAllowed q before (events_in (events_of b c s))
    permitted_allowed b c s h = acting_unless_allowed (is_stopped (process_of s) c) b s (running_at (process_of s) c) c.memory h

    -- an enabled step whose events are allowed is permitted
    invoked_permitted : {P : Type 0} (b : Behaviour P) (who : ℕ) (o : Op) (running : Option (Running P)) (m : Memory) (later : List Event)
        → is_none running ≡ true → AreAllowed q before (events_in (invoking b who o running m).events ++ later) → next_of q ended_before who ≡ Some o
    invoked_permitted b who o None m later e h = h.0
    invoked_permitted b who o (Some run) m later e h = cc

    ready_permitted : {P : Type 0} (b : Behaviour P) (s : Step) (running : Option (Running P)) (m : Memory) (later : List Event)
        → is_ready s running ≡ true → AreAllowed q before (events_in (acting b s running m).events ++ later) → IsPermitted ended_before s
    ready_permitted b (step.Write p v) running m later e h = invoked_permitted b p (op.Write v) running m later e h
    ready_permitted b (step.Read p) running m later e h = invoked_permitted b p op.Read running m later e h
    ready_permitted b (step.Go p c) running m later e h = tt
    ready_permitted b (step.Stop p) running m later e h = h.0

    acting_unless_permitted : {P : Type 0} (stopped : Bool) (b : Behaviour P) (s : Step) (running : Option (Running P)) (m : Memory) (later : List Event)
        → (not stopped && is_ready s running) ≡ true → AreAllowed q before (events_in (acting_unless stopped b s running m).events ++ later) → IsPermitted ended_before s
    acting_unless_permitted true b s running m later e h = absurd (true≢false (sym e))
    acting_unless_permitted false b s running m later e h = ready_permitted b s running m later e h

    pub enabled_permitted : {R P : Type 0} (b : Behaviour P) (c : Configuration R P) (s : Step) (later : List Event) → is_enabled c s ≡ true
        → AreAllowed q before (events_in (events_of b c s) ++ later) → IsPermitted ended_before s
    enabled_permitted b c s later e h = acting_unless_permitted (is_stopped (process_of s) c) b s (running_at (process_of s) c) c.memory later e h
