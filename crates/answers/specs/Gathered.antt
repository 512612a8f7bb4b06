-- What a search keeps while it lists the answers of the states that it found, one after another.
use Rattle.std.specs.Prelude.{◌≡◌, ℕ, ◌*◌, ◌<◌, ◌≤◌, Bool, Some, List, length, slice_get}
use Rattle.safe_bit.specs.Memory.{Memory}
use Rattle.frames.specs.declared.types.Op.{Op}
use Rattle.frames.specs.declared.types.Step.{Step}
use Rattle.frames.specs.Behaviour.{Behaviour}
use Rattle.breadth_first.specs.declared.mark.Mark.{Mark}
use Rattle.breadth_first.specs.Paths.{depth_at, AreTooMany, LeadsBy}
use Rattle.breadth_first.specs.Searches.{IsWholeSearch}
use Rattle.answers.specs.declared.found.Possible.{Possible}
use Rattle.answers.specs.declared.question.Question.{Question}
use Rattle.answers.specs.Answers.{HasItsSchedule}
use Rattle.answers.specs.States.{StateOf, AreAllOver, IsStateOfRun, first_state, moved}
use Rattle.answers.specs.Graphs.{IsStateOf, moves_of}
use Rattle.answers.specs.laws.StateLaws.{state_eq}

-- the answers of state k are listed, with at most d steps
pub record IsCovered {R P : Type 0} (found : List Possible) (k : StateOf R P) (d : ℕ) : Type 0 where
  pub index : ℕ
  pub possible : Possible
  pub stored : slice_get found index ≡ Some possible
  pub answers : possible.answers.items ≡ k.answers
  pub shortest : length possible.steps.items ≤ d

-- the answers of the done states before index `at` are listed, each once, with a schedule of theirs
-- no longer than the paths to these states and to any later state
pub record IsGathered {R P : Type 0} (b : Behaviour P) (q : Question) (nodes : List (StateOf R P)) (marks : List Mark) (at : ℕ) (found : List Possible) : Type 0 where
  pub sound : (i : ℕ) (a : Possible) → slice_get found i ≡ Some a → HasItsSchedule b q a
  pub early : (i : ℕ) (a : Possible) → slice_get found i ≡ Some a → (j : ℕ) → at ≤ j → j < length nodes → length a.steps.items ≤ depth_at marks j
  pub covers : (j : ℕ) (k : StateOf R P) → j < at → slice_get nodes j ≡ Some k → AreAllOver b q k → IsCovered found k (depth_at marks j)
  pub once : (i j : ℕ) (a c : Possible) → slice_get found i ≡ Some a → slice_get found j ≡ Some c → a.answers.items ≡ c.answers.items → i ≡ j

-- these steps lead to `state`, from which the marks that are left lead to `end`
pub record IsBuilding {R P : Type 0} (is : R → Behaviour P) (b : Behaviour P) (q : Question) (end state : StateOf R P) (steps : List Step) (left : List Mark) : Type 0 where
  pub nodes : List (StateOf R P)
  pub run : IsStateOfRun is b q.value q steps state
  pub leads : LeadsBy (b.processes * 4) (λ x l. moved (is x.configuration.register) q x l) nodes state left end

module _ {R P : Type 0} (is : R → Behaviour P) (E : R → R → Bool) (F : P → P → Bool) (q : Question) (r : R) where
  -- the states that the question's moves reach from the initial state of register r: their keys,
  -- which of them are done, and their marks
  abbrev pub IsSearched : (Memory → Type 0) → (ℕ → Op → P → Type 0) → List (List ℕ) → List Bool → List Mark → Type 0
  IsSearched Holds Reaches keys goals marks = IsWholeSearch (moves_of is q r) (state_eq E F) (IsStateOf (is r) Holds Reaches r) keys goals marks

  -- from the initial state of register r the question's moves reach more than `most` states, none
  -- equal to another
  pub record AreTooManyStates (most : ℕ) : Type 0 where
    pub many : AreTooMany ((is r).processes * 4) (λ x l. moved (is x.configuration.register) q x l) (state_eq E F) (first_state (is r) q.value r) most
