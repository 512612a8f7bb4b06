-- States that drafts reach, one step after another; and a list of answers in which one schedule is
-- replaced by another with the same answers.
use Rattle.std.proofs.Common.{◌≡◌, ℕ, zero, suc, ◌⊎◌, inl, inr, List, [], ◌∷◌, ◌++◌, length, Some, true, slice_get, refl, sym, ap, subst, ◌∙◌, arith}
use Rattle.std.specs.Prelude.{slice_set}
use Rattle.std.specs.Global.{Vec}
use Rattle.std.proofs.lemmas.Bool.{cases_eq}
use Rattle.std.proofs.lemmas.Option.{none-some, same_Some}
use Rattle.safe_bit.specs.Memory.{Memory}
use Rattle.frames.specs.declared.types.Op.{Op}
use Rattle.frames.specs.declared.types.Step.{Step}
use Rattle.frames.specs.Behaviour.{Behaviour, IsLawful}
use Rattle.frames.specs.Configuration.{fits_step}
use Rattle.answers.specs.declared.found.Possible.{Possible}
use Rattle.answers.specs.declared.question.Question.{Question}
use Rattle.answers.specs.Questions.{HasAnswers}
use Rattle.answers.specs.Answers.{AllAnswered, HasItsSchedule, IsListed}
use Rattle.answers.specs.States.{StateOf, IsStateOfRun, AreAllOver, advanced, first_state, step_by}
use Rattle.answers.specs.laws.StateLaws.{answers_eq, answers_decide}
use Rattle.answers.proofs.Allowed.{named_permitted}
use Rattle.answers.proofs.DoneStates.{answers_of_state, done_schedule}
use Rattle.answers.proofs.Schedules.{run_first, run_more}

module _ {R P : Type 0} (is : R → Behaviour P) (b : Behaviour P) (q : Question) where
  -- a first draft has no steps, and is in the initial state
  pub draft_first : (r : R) (x : StateOf R P) (steps : List Step) → is r ≡ b → x ≡ first_state b q.value r → steps ≡ [] → IsStateOfRun is b q.value q steps x
  draft_first r x steps e first none =
      subst (λ (s : List Step). IsStateOfRun is b q.value q s x) (sym none)
      (subst (IsStateOfRun is b q.value q []) (sym first) (run_first is b q.value q r e))

  -- one more step that the question lets a process make leads to the state after it
  pub draft_more : (Holds : Memory → Type 0) (Reach : ℕ → Op → P → Type 0) → IsLawful b Holds Reach → (steps more : List Step) (x z : StateOf R P) (p kind : ℕ) (s : Step)
      → IsStateOfRun is b q.value q steps x → step_by q x.answers p kind ≡ Some s → fits_step (is x.configuration.register) s ≡ true
      → more ≡ steps ++ s ∷ [] → z ≡ advanced (is x.configuration.register) x s → IsStateOfRun is b q.value q more z
  draft_more Holds Reach lawful steps more x z p kind s run names fits e made =
      let fits_b : fits_step b s ≡ true = ap (λ (a : Behaviour P). fits_step a s) (sym run.at.behaves) ∙ fits in
      let made_b : z ≡ advanced b x s = made ∙ ap (λ (a : Behaviour P). advanced a x s) run.at.behaves in
      subst (λ (l : List Step). IsStateOfRun is b q.value q l z) (sym e)
      (subst (IsStateOfRun is b q.value q (steps ++ s ∷ [])) (sym made_b)
      (run_more is b q.value q Holds Reach lawful steps x s run fits_b (named_permitted q x.answers p kind s names)))

  -- steps to a done state whose answers are those of `a` can be the schedule of `a`
  pub done_steps : (steps : Vec Step) (x : StateOf R P) (a : Possible) → IsStateOfRun is b q.value q steps.items x → AreAllOver b q x
      → answers_eq x.answers a.answers.items ≡ true → HasItsSchedule b q (record a { steps = steps })
  done_steps steps x a run done same = record {
    schedule = done_schedule is b q steps.items x run done;
    answers = subst (HasAnswers b q.value steps.items) ((answers_decide x.answers a.answers.items).0 same) (answers_of_state is b q steps.items x run.at);
  }

-- an item of a list whose item i was replaced by y is y, or one of the list before
replaced_or_kept : {X : Type 0} (xs : List X) (i j : ℕ) (y x : X) → slice_get (slice_set xs i y) j ≡ Some x → ((j ≡ i) × (y ≡ x)) ⊎ (slice_get xs j ≡ Some x)
replaced_or_kept [] i j y x h = absurd (none-some x h)
replaced_or_kept (d ∷ ds) zero zero y x h = inl (refl, same_Some y x h)
replaced_or_kept (d ∷ ds) zero (suc j) y x h = inr h
replaced_or_kept (d ∷ ds) (suc i) zero y x h = inr h
replaced_or_kept (d ∷ ds) (suc i) (suc j) y x h = elim (replaced_or_kept ds i j y x h) [ inl p ↦ inl (ap suc p.0, p.1) | inr o ↦ inr o ]

-- what a list has in place of a replaced item
set_here : {X : Type 0} (xs : List X) (i : ℕ) (y x : X) → slice_get xs i ≡ Some x → slice_get (slice_set xs i y) i ≡ Some y
set_here [] i y x h = absurd (none-some x h)
set_here (d ∷ ds) zero y x h = refl
set_here (d ∷ ds) (suc i) y x h = set_here ds i y x h

-- and elsewhere
set_elsewhere : {X : Type 0} (xs : List X) (i j : ℕ) (y x : X) → (j ≡ i → ⊥) → slice_get xs j ≡ Some x → slice_get (slice_set xs i y) j ≡ Some x
set_elsewhere [] i j y x ne h = absurd (none-some x h)
set_elsewhere (d ∷ ds) zero zero y x ne h = absurd (ne refl)
set_elsewhere (d ∷ ds) zero (suc j) y x ne h = h
set_elsewhere (d ∷ ds) (suc i) zero y x ne h = h
set_elsewhere (d ∷ ds) (suc i) (suc j) y x ne h = set_elsewhere ds i j y x (λ e. ne (ap suc e)) h

-- Item i of the list, a, is replaced by z, which has the same answers and as many other steps.
module _ {P : Type 0} (b : Behaviour P) (q : Question) (found : List Possible) (i : ℕ) (a z : Possible) (stored : slice_get found i ≡ Some a)
    (answers : z.answers.items ≡ a.answers.items) (long : length z.steps.items ≡ length a.steps.items) (sound : HasItsSchedule b q z) (all : AllAnswered b q found) where
  -- the item at index j had the same answers before
  had_before : (j : ℕ) (c : Possible) → slice_get (slice_set found i z) j ≡ Some c → (d : Possible) × ((slice_get found j ≡ Some d) × (c.answers.items ≡ d.answers.items))
  had_before j c h = elim (replaced_or_kept found i j z c h) [
    | inl p ↦ (a, (ap (slice_get found) p.0 ∙ stored, ap (λ (n : Possible). n.answers.items) (sym p.1) ∙ answers))
    | inr o ↦ (c, (o, refl))
  ]

  -- all is still answered
  pub still_all_answered : AllAnswered b q (slice_set found i z)
  still_all_answered = record {
    sound = λ j c h. elim (replaced_or_kept found i j z c h) [ inl p ↦ subst (HasItsSchedule b q) p.1 sound | inr o ↦ all.sound j c o ];
    complete = λ steps schedule. still steps (all.complete steps schedule);
    once = λ j k c d h l e.
        let o = had_before j c h in
        let n = had_before k d l in
        all.once j k o.0 n.0 o.1.0 n.1.0 (sym o.1.1 ∙ (e ∙ n.1.1));
  }
    where
      still : (steps : List Step) → IsListed b q found steps → IsListed b q (slice_set found i z) steps
      still steps l = elim (cases_eq l.index i) [
        | inl e ↦
            let same : a ≡ l.possible = same_Some a l.possible (sym stored ∙ (ap (slice_get found) (sym e) ∙ l.stored)) in
            let short = l.shortest in
            let as_long : length a.steps.items ≡ length l.possible.steps.items = ap (λ (n : Possible). length n.steps.items) same in
            record {
              index = i;
              possible = z;
              stored = set_here found i z a stored;
              answers = subst (HasAnswers b q.value steps) (sym (answers ∙ ap (λ (n : Possible). n.answers.items) same)) l.answers;
              shortest = omega (arith, long, as_long, short);
            }
        | inr ne ↦ record {
          index = l.index;
          possible = l.possible;
          stored = set_elsewhere found i l.index z l.possible ne l.stored;
          answers = l.answers;
          shortest = l.shortest;
        }
      ]
