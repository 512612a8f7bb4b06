-- What a search for answers finds.
use Rattle.std.specs.Prelude.{◌≡◌, ℕ, ◌≤◌, List, Some, length, slice_get}
use Rattle.frames.specs.declared.types.Step.{Step}
use Rattle.frames.specs.Behaviour.{Behaviour}
use Rattle.answers.specs.declared.found.Possible.{Possible}
use Rattle.answers.specs.declared.question.Question.{Question}
use Rattle.answers.specs.Questions.{IsScheduleOf, HasAnswers}

-- the schedule of a list of answers is one of what is asked, and has these answers
pub record HasItsSchedule {P : Type 0} (b : Behaviour P) (q : Question) (a : Possible) : Type 0 where
  pub schedule : IsScheduleOf b q a.steps.items
  pub answers : HasAnswers b q.value a.steps.items a.answers.items

-- the answers of these steps are listed, with a schedule that is no longer
pub record IsListed {P : Type 0} (b : Behaviour P) (q : Question) (found : List Possible) (steps : List Step) : Type 0 where
  pub index : ℕ
  pub possible : Possible
  pub stored : slice_get found index ≡ Some possible
  pub answers : HasAnswers b q.value steps possible.answers.items
  pub shortest : length possible.steps.items ≤ length steps

-- Just the possible answers are listed, each once, with a schedule as short as any: each list has
-- its schedule; and whatever the schedule of what is asked, its answers are listed.
pub record AllAnswered {P : Type 0} (b : Behaviour P) (q : Question) (found : List Possible) : Type 0 where
  pub sound : (i : ℕ) (a : Possible) → slice_get found i ≡ Some a → HasItsSchedule b q a
  pub complete : (steps : List Step) → IsScheduleOf b q steps → IsListed b q found steps
  pub once : (i j : ℕ) (a c : Possible) → slice_get found i ≡ Some a → slice_get found j ≡ Some c → a.answers.items ≡ c.answers.items → i ≡ j
