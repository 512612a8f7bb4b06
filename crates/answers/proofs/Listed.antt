-- The answers of a done state, which its walk gives, are listed.
use Rattle.std.proofs.Common.{◌≡◌, ℕ, ◌+◌, ◌<◌, ◌≤◌, inl, inr, Bool, true, false, List, [], ◌∷◌, ◌++◌, map, length, Some, slice_get, sym, ap, subst, ◌∙◌, arith}
use Rattle.std.specs.Prelude.{slice_index_or}
use Rattle.std.specs.List.{list_any}
use Rattle.std.proofs.lemmas.Option.{slice_get_cases}
use Rattle.frames.specs.declared.types.Step.{Step}
use Rattle.frames.specs.Behaviour.{Behaviour}
use Rattle.breadth_first.specs.declared.mark.Mark.{Mark}
use Rattle.breadth_first.specs.Paths.{depth_at}
use Rattle.answers.specs.declared.found.Possible.{Possible}
use Rattle.answers.specs.declared.question.Question.{Question}
use Rattle.answers.specs.Answers.{HasItsSchedule}
use Rattle.answers.specs.Gathered.{IsBuilding, IsGathered}
use Rattle.answers.specs.Graphs.{all_over}
use Rattle.answers.specs.Questions.{IsScheduleOf, HasAnswers}
use Rattle.answers.specs.States.{StateOf}
use Rattle.answers.specs.laws.StateLaws.{answers_eq}
use Rattle.answers.proofs.Building.{built, built_state}
use Rattle.answers.proofs.DoneStates.{done_schedule, answers_of_state}
use Rattle.answers.proofs.Gathering.{covered_listed, gathered_push, gathered_skip}
use Rattle.answers.proofs.NotedGoals.{goal_done}

module _ {R P : Type 0} (is : R → Behaviour P) (b : Behaviour P) (q : Question) (nodes : List (StateOf R P)) (goals : List Bool) (marks : List Mark) (marked : length marks ≡ length nodes)
    (by_goal : goals ≡ map (λ x. all_over q x b.processes) nodes) (index : ℕ) (d : Bool) (read : d ≡ slice_index_or goals index d)
    (sorted : (i j : ℕ) → i ≤ j → j < length nodes → depth_at marks i ≤ depth_at marks j)
    (found : List Possible) (g : IsGathered b q nodes marks index found) (there : index < length marks) (done : d ≡ true)
    (state : StateOf R P) where
  -- equal states have the same answers listed or not
  listed_alike : (k : StateOf R P) → state ≡ k → list_any (λ (a : Possible). answers_eq a.answers.items k.answers) found ≡ list_any (λ (a : Possible). answers_eq a.answers.items state.answers) found
  listed_alike k e i = list_any (λ (a : Possible). answers_eq a.answers.items (sym e i).answers) found

  -- if the answers of the state at `index` are listed already, those of the states up to it are
  pub listed_before : (steps : List Step) → ((k : StateOf R P) → slice_get nodes index ≡ Some k → IsBuilding is b q k state steps [])
      → list_any (λ (a : Possible). answers_eq a.answers.items state.answers) found ≡ true → IsGathered b q nodes marks (index + 1) found
  listed_before steps walk listed = elim ((slice_get_cases nodes index).1) [
    | inl a ↦ let same = built_state is b q a.0 state steps (walk a.0 a.2) in
        gathered_skip b q nodes marks sorted index found g a.0 a.2 (λ _. covered_listed b q nodes marks sorted index found g a.0 a.2 (listed_alike a.0 same ∙ listed))
    | inr n ↦ absurd (omega (arith, there, marked, n.0))
  ]

  -- if the answers of the state at `index` are added to the list, those of the states up to it are
  -- listed
  pub listed_now : (steps : List Step) → ((k : StateOf R P) → slice_get nodes index ≡ Some k → IsBuilding is b q k state steps [])
      → list_any (λ (a : Possible). answers_eq a.answers.items state.answers) found ≡ false → length steps ≡ depth_at marks index
      → (a : Possible) → a.answers.items ≡ state.answers → a.steps.items ≡ steps → IsGathered b q nodes marks (index + 1) (found ++ a ∷ [])
  listed_now steps walk new long a answers along = elim ((slice_get_cases nodes index).1) [
    | inl k ↦ push k.0 k.2
    | inr n ↦ absurd (omega (arith, there, marked, n.0))
  ]
    where
      push : (k : StateOf R P) → slice_get nodes index ≡ Some k → IsGathered b q nodes marks (index + 1) (found ++ a ∷ [])
      push k stored =
          let w = walk k stored in
          let run = built is b q k state steps w in
          let same = built_state is b q k state steps w in
          let has : a.answers.items ≡ k.answers = answers ∙ ap (λ (x : StateOf R P). x.answers) same in
          let sound : HasItsSchedule b q a = record {
            schedule = subst (IsScheduleOf b q) (sym along) (done_schedule is b q steps k run (goal_done b q nodes goals marks marked by_goal index d read k stored done));
            answers = subst (λ (l : List Step). HasAnswers b q.value l a.answers.items) (sym along) (subst (HasAnswers b q.value steps) (sym has) (answers_of_state is b q steps k run.at));
          } in
          gathered_push b q nodes marks sorted index found g k stored a sound has (ap length along ∙ long) (listed_alike k same ∙ new)
