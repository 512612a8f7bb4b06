-- A schedule's answers are those of a done state that is found; and a done state's steps are a
-- schedule.
use Rattle.std.proofs.Common.{◌≡◌, ℕ, ◌*◌, ◌≤◌, ◌⊎◌, inl, inr, Bool, true, false, ◌||◌, List, [], Option, None, Some, length, slice_get, refl, sym, ap, subst, ◌∙◌, true≢false, eq-eqb, arith}
use Rattle.std.specs.Prelude.{◌==◌, ◌&&◌, is_none, slice_index_or}
use Rattle.std.specs.Bool.{Decides}
use Rattle.std.proofs.lemmas.Bool.Decides.{Decides-eqb}
use Rattle.safe_bit.specs.Memory.{Memory}
use Rattle.frames.specs.declared.types.Op.{Op}
use Rattle.frames.specs.declared.types.Step.{Step}
use Rattle.frames.specs.declared.types.Outcome.{Outcome}
use Rattle.frames.specs.declared.running.Running.{Running}
use Rattle.frames.specs.Behaviour.{Behaviour, IsLawful}
use Rattle.frames.specs.Configuration.{running_at, is_stopped}
use Rattle.frames.specs.Recorded.{LoneConfiguration}
use Rattle.breadth_first.specs.declared.mark.Mark.{Mark}
use Rattle.breadth_first.specs.Paths.{IsAllReached, depth_at}
use Rattle.answers.specs.declared.question.Question.{Question}
use Rattle.answers.specs.Questions.{IsThrough, IsScheduleOf, HasAnswers, operations_of}
use Rattle.answers.specs.States.{StateOf, IsStateAfter, IsStateOfRun, AreAllOver, ended_counts, first_state, is_over, moved}
use Rattle.answers.specs.laws.StateLaws.{SameState, state_eq, state_decides}
use Rattle.answers.proofs.Schedules.{after_no_steps, walk}
use Rattle.std.proofs.lemmas.Bool.{or_right}

-- if `is_over` holds, the process has stopped, or is idle and has ended all its operations
over_parts : {X : Type 0} (s : Bool) (r : Option X) (n m : ℕ) → (s || (is_none r && n == m)) ≡ true → (s ≡ true) ⊎ ((r ≡ None) × (n ≡ m))
over_parts true r n m h = inl refl
over_parts false None n m h = inr (refl, (Decides-eqb n m).0 h)
over_parts false (Some x) n m h = absurd (true≢false (sym h))

-- the same backwards
over_whole : {X : Type 0} (s : Bool) (r : Option X) (n m : ℕ) → (s ≡ true) ⊎ ((r ≡ None) × (n ≡ m)) → (s || (is_none r && n == m)) ≡ true
over_whole s r n m (inl e) = ap (λ t. t || (is_none r && n == m)) e
over_whole s r n m (inr e) = (λ i. s || (is_none (e.0 i) && e.1 i == m)) ∙ (ap (λ t. s || t) (eq-eqb m m refl) ∙ or_right s true refl)

module _ {R P : Type 0} (is : R → Behaviour P) (b : Behaviour P) (q : Question) where
  -- a process is over in the state after some steps exactly if it is through with these
  over_through : (steps : List Step) (x : StateOf R P) (p : ℕ) → IsStateAfter is b q.value steps x → is_over q x p ≡ true → IsThrough b q steps p
  over_through steps x p at h = elim (over_parts (is_stopped p x.configuration) (running_at p x.configuration) (ended_counts x.answers p) (length (operations_of q p)) h) [
    | inl e ↦ inl (ap (λ (c : LoneConfiguration P). is_stopped p c) (sym at.shows) ∙ e)
    | inr e ↦ inr (ap (λ (c : LoneConfiguration P). running_at p c) (sym at.shows) ∙ e.0, ap length (sym (at.answered p)) ∙ e.1)
  ]

  through_over : (steps : List Step) (x : StateOf R P) (p : ℕ) → IsStateAfter is b q.value steps x → IsThrough b q steps p → is_over q x p ≡ true
  through_over steps x p at h = over_whole (is_stopped p x.configuration) (running_at p x.configuration) (ended_counts x.answers p) (length (operations_of q p)) (elim h [
    | inl e ↦ inl (ap (λ (c : LoneConfiguration P). is_stopped p c) at.shows ∙ e)
    | inr e ↦ inr (ap (λ (c : LoneConfiguration P). running_at p c) at.shows ∙ e.0, ap length (at.answered p) ∙ e.1)
  ])

  -- the steps to a done state are a schedule of what is asked
  pub done_schedule : (steps : List Step) (x : StateOf R P) → IsStateOfRun is b q.value q steps x → AreAllOver b q x → IsScheduleOf b q steps
  done_schedule steps x run done = record {
    fit = run.fit;
    allowed = run.allowed;
    through = λ p lt. over_through steps x p run.at (done p lt);
  }

  -- the state after some steps has the answers of these steps
  pub answers_of_state : (steps : List Step) (x : StateOf R P) → IsStateAfter is b q.value steps x → HasAnswers b q.value steps x.answers
  answers_of_state steps x at = record { for_each = at.each; in_order = at.answered }

  -- a done state with a schedule's answers is found, no deeper than the schedule is long
  pub record IsDiscovered (nodes : List (StateOf R P)) (marks : List Mark) (steps : List Step) : Type 0 where
    pub index : ℕ
    pub state : StateOf R P
    pub stored : slice_get nodes index ≡ Some state
    pub done : AreAllOver b q state
    pub answers : HasAnswers b q.value steps state.answers
    pub within : depth_at marks index ≤ length steps

  module _ (E : R → R → Bool) (F : P → P → Bool) (d : (x y : P) → Decides (F x y) (x ≡ y)) where
    -- equal states have the same processes over
    same_over : (x k : StateOf R P) (p : ℕ) → SameState E x k → is_over q x p ≡ is_over q k p
    same_over x k p e i = over_at (e.configuration.stopped i) (e.configuration.running i) (e.answers i)
      where
        over_at : List Bool → List (Option (Running P)) → List (List Outcome) → Bool
        over_at stopped running answers = slice_index_or stopped p false || (is_none (slice_index_or running p None) && ended_counts answers p == length (operations_of q p))

    -- whatever the schedule, a done state with its answers is found
    pub discovered : (Holds : Memory → Type 0) (Reach : ℕ → Op → P → Type 0) → IsLawful b Holds Reach → (r : R) → is r ≡ b → (nodes : List (StateOf R P)) (marks : List Mark)
        → IsAllReached (b.processes * 4) (λ x l. moved (is x.configuration.register) q x l) (state_eq E F) (first_state b q.value r) nodes marks
        → (steps : List Step) → IsScheduleOf b q steps → IsDiscovered nodes marks steps
    discovered Holds Reach lawful r e nodes marks all steps schedule =
        let w = walk is b q.value q Holds Reach lawful (first_state b q.value r) steps [] (first_state b q.value r) 0 (after_no_steps is b q.value r e) refl schedule.fit schedule.allowed in
        let f = all.complete w.moves w.state w.reached in
        let same : SameState E w.state f.node = (state_decides E F d w.state f.node).0 f.same in
        record {
          index = f.index;
          state = f.node;
          stored = f.stored;
          done = λ p lt. sym (same_over w.state f.node p same) ∙ through_over steps w.state p w.at (schedule.through p lt);
          answers = subst (HasAnswers b q.value steps) same.answers (answers_of_state steps w.state w.at);
          within = omega (arith, f.within, w.few);
        }
