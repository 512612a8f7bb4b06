-- States that schedules reach: from a schedule to moves, and from moves to a schedule.
use Rattle.std.proofs.Common.{◌≡◌, ℕ, zero, suc, ◌+◌, ◌*◌, ◌/◌, ◌%◌, ◌<◌, ◌≤◌, Bool, true, false, List, [], ◌∷◌, ◌++◌, length, get_or, set, replicate, Option, Some, None, option_map, inl, inr, refl, sym, ap, subst, ◌∙◌, append_assoc, arith}
use Rattle.std.specs.Prelude.{if◌then◌else◌, ◌&&◌, slice_index_or, nat_lt}
use Rattle.std.proofs.lemmas.Bool.{cases_eq, ne_eqb, and_parts, ltb-true}
use Rattle.std.proofs.lemmas.List.{append-nil, length-set, get_or-set_same, get_or-set_other, length-replicate}
use Rattle.std.proofs.lemmas.Nat.{div-mul-add, mod-mul-add}
use Rattle.std.proofs.lemmas.Option.{none-some, same_Some}
use Rattle.safe_bit.specs.Memory.{Memory}
use Rattle.frames.specs.declared.types.Op.{Op}
use Rattle.frames.specs.declared.types.Outcome.{Outcome}
use Rattle.frames.specs.declared.types.Event.{Event}
use Rattle.frames.specs.declared.types.Step.{Step}
use Rattle.frames.specs.declared.types.Step.TheVariants as step
use Rattle.frames.specs.Behaviour.{Behaviour, IsLawful}
use Rattle.frames.specs.Steps.{process_of, invoking_step}
use Rattle.frames.specs.Voids.{IsVoid}
use Rattle.frames.specs.laws.Steps.{process_exists, void_unless_enabled, initial_is_configuration}
use Rattle.frames.specs.Configuration.{fits_step, is_enabled, stepped, events_of, history}
use Rattle.frames.specs.Recorded.{LoneConfiguration, AllFit, configuration_after, without_register}
use Rattle.breadth_first.specs.Paths.{Moves, Reaches}
use Rattle.answers.specs.declared.question.Question.{Question}
use Rattle.answers.specs.Questions.{all_events, events_in, events_after, outcomes_by, AreAllowed}
use Rattle.answers.specs.States.{StateOf, IsStateAfter, IsStateOfRun, first_state, advanced, ended_counts, step_by, moved, moved_if}
use Rattle.frames.proofs.Replayed.{fit-push}
use Rattle.answers.proofs.Events.{outcomes_by_append, shown_more, events_more, events_other}
use Rattle.answers.proofs.Allowed.{IsPermitted, named_permitted, allowed_append, allowed_later, enabled_permitted, permitted_allowed, ended_before}
use Rattle.answers.specs.Graphs.{IsStateOf}

-- at first no process has answers
no_answers_at : (n p : ℕ) → ◌≡◌ {A = List Outcome} (get_or (replicate n []) p []) []
no_answers_at zero p = refl
no_answers_at (suc n) zero = refl
no_answers_at (suc n) (suc p) = no_answers_at n p

-- what `IsStateOf` says of each state holds of the initial one
pub initial_is_state_of : {R P : Type 0} (b : Behaviour P) (Holds : Memory → Type 0) (Reaches : ℕ → Op → P → Type 0) → IsLawful b Holds Reaches → (r : R) (value : ℕ) → value < b.values
    → IsStateOf b Holds Reaches r (first_state b value r)
initial_is_state_of b Holds Reaches lawful r value lt = record {
  register = refl;
  sound = initial_is_configuration b Holds Reaches lawful r value (b.initial value) (replicate b.processes None) (replicate b.processes false) lt refl refl refl;
  each = length-replicate b.processes _;
}

module _ {R P : Type 0} (is : R → Behaviour P) (b : Behaviour P) (value : ℕ) where
  -- the initial state is the one after no steps
  pub after_no_steps : (r : R) → is r ≡ b → IsStateAfter is b value [] (first_state b value r)
  after_no_steps r e = record {
    behaves = e;
    shows = refl;
    each = length-replicate b.processes [];
    answered = λ p. no_answers_at b.processes p;
  }

  -- a step of x has the same events as that step after the steps
  same_events : (steps : List Step) (x : StateOf R P) (s : Step) → IsStateAfter is b value steps x → events_of b x.configuration s ≡ events_of b (configuration_after b value steps) s
  same_events steps x s at = ap (λ (c : LoneConfiguration P). events_of b c s) at.shows

  -- the answers of x, and the outcomes of one more step, are those of the steps with it
  answered_more : (steps : List Step) (x : StateOf R P) (s : Step) (p : ℕ) → IsStateAfter is b value steps x
      → slice_index_or x.answers p [] ++ outcomes_by p (events_in (events_of b x.configuration s)) ≡ outcomes_by p (events_after b value (steps ++ s ∷ []))
  answered_more steps x s p at =
      (λ i. at.answered p i ++ outcomes_by p (events_in (same_events steps x s at i)))
      ∙ (sym (outcomes_by_append p (events_after b value steps) (events_in (events_of b (configuration_after b value steps) s)))
      ∙ ap (outcomes_by p) (sym (events_more b value steps s)))

  module _ (Holds : Memory → Type 0) (Reach : ℕ → Op → P → Type 0) (lawful : IsLawful b Holds Reach) where
    -- a step that fits leads to the state after it
    pub after_step : (steps : List Step) (x : StateOf R P) (s : Step) → IsStateAfter is b value steps x → fits_step b s ≡ true → IsStateAfter is b value (steps ++ s ∷ []) (advanced b x s)
    after_step steps x s at fits = record {
      behaves = at.behaves;
      shows = ap (λ (c : LoneConfiguration P). stepped b c s) at.shows ∙ sym (shown_more b value steps s);
      each = length-set x.answers (process_of s) _ ∙ at.each;
      answered = λ p. elim (cases_eq p (process_of s)) [ inl e ↦ own p e | inr ne ↦ other p ne ];
    }
      where
        added : List Outcome
        added = slice_index_or x.answers (process_of s) [] ++ outcomes_by (process_of s) (events_in (events_of b x.configuration s))

        there : process_of s < length x.answers
        there = let lt = process_exists b Holds Reach lawful s fits in let e = at.each in omega (arith, lt, e)

        own : (p : ℕ) → p ≡ process_of s → get_or (set x.answers (process_of s) added) p [] ≡ outcomes_by p (events_after b value (steps ++ s ∷ []))
        own p e =
            ap (λ n. get_or (set x.answers (process_of s) added) n []) e
            ∙ (get_or-set_same x.answers (process_of s) added [] there
            ∙ (answered_more steps x s (process_of s) at ∙ ap (λ n. outcomes_by n (events_after b value (steps ++ s ∷ []))) (sym e)))

        none : (p : ℕ) → (p ≡ process_of s → ⊥) → outcomes_by p (events_in (events_of b x.configuration s)) ≡ []
        none p ne = events_other p b x.configuration s (ne_eqb (process_of s) p (λ e. ne (sym e)))

        other : (p : ℕ) → (p ≡ process_of s → ⊥) → get_or (set x.answers (process_of s) added) p [] ≡ outcomes_by p (events_after b value (steps ++ s ∷ []))
        other p ne =
            get_or-set_other x.answers (process_of s) p added [] ne
            ∙ (sym (append-nil (slice_index_or x.answers p []))
            ∙ (ap (λ l. slice_index_or x.answers p [] ++ l) (sym (none p ne)) ∙ answered_more steps x s p at))

  -- a step that isn't enabled leaves the state as it is
  pub after_void : (steps : List Step) (x : StateOf R P) (s : Step) → IsStateAfter is b value steps x → is_enabled x.configuration s ≡ false → IsStateAfter is b value (steps ++ s ∷ []) x
  after_void steps x s at off =
      let void : IsVoid b (without_register x.configuration) s = void_unless_enabled b (without_register x.configuration) s off in
      record {
        behaves = at.behaves;
        shows = sym void.leaves ∙ (ap (λ (c : LoneConfiguration P). stepped b c s) at.shows ∙ sym (shown_more b value steps s));
        each = at.each;
        answered = λ p.
            sym (append-nil (slice_index_or x.answers p []))
            ∙ (ap (λ e. slice_index_or x.answers p [] ++ outcomes_by p (events_in e)) (sym void.reported) ∙ answered_more steps x s p at);
      }

  module _ (q : Question) where
    -- the state to which label l leads from x
    abbrev pub labelled_move : StateOf R P → ℕ → Option (StateOf R P)
    labelled_move x l = moved (is x.configuration.register) q x l

    -- a bit action with a choice above 1 fits no register
    no_third_choice : (p c : ℕ) → fits_step b (step.Go p (suc (suc c))) ≡ true → ⊥
    no_third_choice p c h = let lt = ltb-true (suc (suc c)) 2 (and_parts (nat_lt p b.processes) (nat_lt (suc (suc c)) 2) h).1 in omega (arith, lt)

    -- a step that p and `kind` name, and that fits and is enabled, is a move, by label p * 4 + kind
    named_moves : (p kind : ℕ) (x : StateOf R P) (s : Step) → kind < 4 → is x.configuration.register ≡ b → p < b.processes
        → step_by q x.answers p kind ≡ Some s → fits_step b s ≡ true → is_enabled x.configuration s ≡ true
        → Moves (b.processes * 4) labelled_move x (advanced b x s)
    named_moves p kind x s low e lt names fits on = (
      p * 4 + kind,
      (
        omega (arith, lt, low),
        ap (λ (a : Behaviour P). moved a q x (p * 4 + kind)) e
            ∙ ((λ i. moved_if b x (step_by q x.answers (div-mul-add p 4 kind low i) (mod-mul-add p 4 kind low i)))
            ∙ (ap (moved_if b x) names ∙ (λ i. if (fits i) && (on i) then Some (advanced b x s) else None))),
      ),
    )

    -- a permitted step that fits and is enabled is a move
    pub permitted_moves : (x : StateOf R P) (s : Step) → is x.configuration.register ≡ b → process_of s < b.processes
        → IsPermitted q (ended_counts x.answers) s → fits_step b s ≡ true → is_enabled x.configuration s ≡ true → Moves (b.processes * 4) labelled_move x (advanced b x s)
    permitted_moves x (step.Write p v) e lt h fits on = named_moves p 2 x (step.Write p v) (omega arith) e lt (ap (option_map (invoking_step p)) h) fits on
    permitted_moves x (step.Read p) e lt h fits on = named_moves p 2 x (step.Read p) (omega arith) e lt (ap (option_map (invoking_step p)) h) fits on
    permitted_moves x (step.Go p zero) e lt h fits on = named_moves p 0 x (step.Go p zero) (omega arith) e lt refl fits on
    permitted_moves x (step.Go p (suc zero)) e lt h fits on = named_moves p 1 x (step.Go p (suc zero)) (omega arith) e lt refl fits on
    permitted_moves x (step.Go p (suc (suc c))) e lt h fits on = absurd (no_third_choice p c fits)
    permitted_moves x (step.Stop p) e lt h fits on = named_moves p 3 x (step.Stop p) (omega arith) e lt (ap (λ t. if t then Some (step.Stop p) else None) h) fits on

    -- the numbers of ended operations are the same by the state's answers and by the events
    same_counts : (steps : List Step) (x : StateOf R P) → IsStateAfter is b value steps x → ended_counts x.answers ≡ ended_before q (events_after b value steps)
    same_counts steps x at i r = length (at.answered r i)

    -- `step_taken`, by whether the step fits and is enabled
    by_test : (x z : StateOf R P) (s : Step) (t u : Bool) → fits_step b s ≡ t → (if t && u then Some (advanced b x s) else None) ≡ Some z
        → (fits_step b s ≡ true) × (advanced b x s ≡ z)
    by_test x z s true true e h = (e, same_Some (advanced b x s) z h)
    by_test x z s true false e h = absurd (none-some z h)
    by_test x z s false u e h = absurd (none-some z h)

    -- a move is a step that fits
    pub step_taken : (x z : StateOf R P) (o : Option Step) → moved_if b x o ≡ Some z → (s : Step) × ((o ≡ Some s) × ((fits_step b s ≡ true) × (advanced b x s ≡ z)))
    step_taken x z None h = absurd (none-some z h)
    step_taken x z (Some s) h = (s, (refl, by_test x z s (fits_step b s) (is_enabled x.configuration s) refl h))

    -- no steps lead to the initial state
    pub run_first : (r : R) → is r ≡ b → IsStateOfRun is b value q [] (first_state b value r)
    run_first r e = record { at = after_no_steps r e; fit = λ k d lt. absurd (omega (arith, lt)); allowed = tt }

    module _ (Holds : Memory → Type 0) (Reach : ℕ → Op → P → Type 0) (lawful : IsLawful b Holds Reach) where
      -- one more step that fits, and that its process may make
      pub run_more : (steps : List Step) (x : StateOf R P) (s : Step) → IsStateOfRun is b value q steps x → fits_step b s ≡ true → IsPermitted q (ended_counts x.answers) s
          → IsStateOfRun is b value q (steps ++ s ∷ []) (advanced b x s)
      run_more steps x s run fits may =
          let before = events_after b value steps in
          let may_be : IsPermitted q (ended_before q before) s = subst (λ (n : ℕ → ℕ). IsPermitted q n s) (same_counts steps x run.at) may in
          record {
            at = after_step Holds Reach lawful steps x s run.at fits;
            fit = fit-push b steps s run.fit fits;
            allowed = subst (AreAllowed q []) (sym (events_more b value steps s))
                (allowed_append q [] before (events_in (events_of b (configuration_after b value steps) s)) run.allowed (permitted_allowed q before b (configuration_after b value steps) s may_be));
          }

      -- a move from the state after some steps makes one more step
      pub run_moves : (steps : List Step) (x z : StateOf R P) (l : ℕ) (s : Step) → IsStateOfRun is b value q steps x → step_by q x.answers (l / 4) (l % 4) ≡ Some s
          → labelled_move x l ≡ Some z → IsStateOfRun is b value q (steps ++ s ∷ []) z
      run_moves steps x z l s run names mv =
          let t = step_taken x z (step_by q x.answers (l / 4) (l % 4)) (ap (λ (a : Behaviour P). moved a q x l) (sym run.at.behaves) ∙ mv) in
          let same : t.0 ≡ s = same_Some t.0 s (sym t.1.0 ∙ names) in
          subst (λ (n : Step). IsStateOfRun is b value q (steps ++ n ∷ []) z) same
          (subst (IsStateOfRun is b value q (steps ++ t.0 ∷ [])) t.1.1.1 (run_more steps x t.0 run t.1.1.0 (named_permitted q x.answers (l / 4) (l % 4) t.0 t.1.0)))

      -- a state after these steps is reached by no more moves than there are steps
      pub record IsWalked (start : StateOf R P) (steps : List Step) (most : ℕ) : Type 0 where
        pub state : StateOf R P
        pub moves : ℕ
        pub at : IsStateAfter is b value steps state
        pub few : moves ≤ most
        pub reached : Reaches (b.processes * 4) labelled_move start moves state

      -- a state reached by n moves leads, by at most as many moves as there are further steps, to
      -- the state after them
      pub walk : (start : StateOf R P) (rest steps : List Step) (x : StateOf R P) (n : ℕ) → IsStateAfter is b value steps x → Reaches (b.processes * 4) labelled_move start n x
          → AllFit b rest → AreAllowed q (events_after b value steps) (all_events (history b (configuration_after b value steps) rest))
          → IsWalked start (steps ++ rest) (n + length rest)
      walk start [] steps x n at reached fit allowed = record {
        state = x;
        moves = n;
        at = subst (λ l. IsStateAfter is b value l x) (sym (append-nil steps)) at;
        few = omega arith;
        reached = reached;
      }
      walk start (s ∷ rest) steps x n at reached fit allowed =
          by (is_enabled x.configuration s) refl (λ y m a r. walk start rest (steps ++ s ∷ []) y m a r (λ k d lt. fit (suc k) d (omega (arith, lt))) later)
        where
          fits : fits_step b s ≡ true
          fits = fit 0 s (omega arith)

          events : List Event
          events = events_in (events_of b (configuration_after b value steps) s)

          later : AreAllowed q (events_after b value (steps ++ s ∷ [])) (all_events (history b (configuration_after b value (steps ++ s ∷ [])) rest))
          later =
              subst (λ l. AreAllowed q l (all_events (history b (configuration_after b value (steps ++ s ∷ [])) rest))) (sym (events_more b value steps s))
              (subst (λ (c : LoneConfiguration P). AreAllowed q (events_after b value steps ++ events) (all_events (history b c rest))) (sym (shown_more b value steps s))
              (allowed_later q (events_after b value steps) events (all_events (history b (stepped b (configuration_after b value steps) s) rest)) allowed))

          joined : (most : ℕ) → most ≤ n + length (s ∷ rest) → IsWalked start ((steps ++ s ∷ []) ++ rest) most → IsWalked start (steps ++ s ∷ rest) (n + length (s ∷ rest))
          joined most le w = record {
            state = w.state;
            moves = w.moves;
            at = subst (λ l. IsStateAfter is b value l w.state) (append_assoc steps (s ∷ []) rest) w.at;
            few = let few = w.few in omega (arith, few, le);
            reached = w.reached;
          }

          moves : is_enabled x.configuration s ≡ true → Moves (b.processes * 4) labelled_move x (advanced b x s)
          moves on =
              let same : is_enabled (configuration_after b value steps) s ≡ true = ap (λ (c : LoneConfiguration P). is_enabled c s) (sym at.shows) ∙ on in
              let may : IsPermitted q (ended_before q (events_after b value steps)) s = enabled_permitted q (events_after b value steps) b (configuration_after b value steps) s (all_events (history b (stepped b (configuration_after b value steps) s) rest)) same allowed in
              permitted_moves x s at.behaves (process_exists b Holds Reach lawful s fits)
              (subst (λ (f : ℕ → ℕ). IsPermitted q f s) (sym (same_counts steps x at)) may) fits on

          by : (on : Bool) → is_enabled x.configuration s ≡ on
              → ((y : StateOf R P) (m : ℕ) → IsStateAfter is b value (steps ++ s ∷ []) y → Reaches (b.processes * 4) labelled_move start m y → IsWalked start ((steps ++ s ∷ []) ++ rest) (m + length rest))
              → IsWalked start (steps ++ s ∷ rest) (n + length (s ∷ rest))
          by true on go = joined (suc n + length rest) (omega arith) (go (advanced b x s) (suc n) (after_step Holds Reach lawful steps x s at fits) (x, (reached, moves on)))
          by false off go = joined (n + length rest) (omega arith) (go x n (after_void steps x s at off) reached)
