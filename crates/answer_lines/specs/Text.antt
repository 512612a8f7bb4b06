-- The text of what a search found.
use Rattle.std.specs.Prelude.{ℕ, ◌+◌, List, [], ◌∷◌, ◌++◌, Option, Some, None, length, codes, slice_index_or}
use Rattle.std.specs.Fmt.{decimal}
use Rattle.std.specs.List.{flat_map}
use Rattle.frames.specs.declared.types.Layer.TheVariants.{Stamped, Matrix}
use Rattle.frames.specs.declared.types.Op.{Op}
use Rattle.frames.specs.declared.types.Outcome.{Outcome}
use Rattle.frames.specs.declared.types.Outcome.TheVariants.{Value, Written, Spent}
use Rattle.frames.specs.declared.types.Step.{Step}
use Rattle.answers.specs.declared.found.Possible.{Possible}
use Rattle.words.specs.Steps.{step_text}

-- a space and an outcome: a value, `written`, or which layer had no stamp or tag left
abbrev pub outcome_text : Outcome → List ℕ
outcome_text (Value v) = codes " " ++ decimal v
outcome_text Written = codes " written"
outcome_text (Spent Stamped) = codes " spent-stamped"
outcome_text (Spent Matrix) = codes " spent-matrix"

-- the outcomes of a process, or ` none` if there are none
abbrev pub outcomes_text : List Outcome → List ℕ
outcomes_text [] = codes " none"
outcomes_text (o ∷ os) = flat_map outcome_text (o ∷ os)

-- the name of process p and its outcomes
abbrev pub answers_of : List (List Outcome) → ℕ → List ℕ
answers_of answers p = codes " p" ++ decimal p ++ outcomes_text (slice_index_or answers p [])

-- what the line `answers` has of process p, which has these operations
abbrev pub answers_part : List (List Outcome) → ℕ → List Op → List ℕ
answers_part answers p [] = []
answers_part answers p (o ∷ os) = answers_of answers p

-- what the line `answers` has of process p and those that follow it
abbrev pub answers_parts : List (List Outcome) → ℕ → List (List Op) → List ℕ
answers_parts answers p [] = []
answers_parts answers p (list ∷ lists) = answers_part answers p list ++ answers_parts answers (p + 1) lists

-- the line of a step
abbrev pub line_of_step : Step → List ℕ
line_of_step s = step_text s ++ 10 ∷ []

-- an empty line, the line `answers`, and a line for each step of the schedule
abbrev pub possible_text : List (List Op) → Possible → List ℕ
possible_text operations a = 10 ∷ codes "answers" ++ answers_parts a.answers.items 0 operations ++ 10 ∷ [] ++ flat_map line_of_step a.steps.items

-- the lines of the numbers of states and of lists of answers
abbrev pub counts_text : ℕ → ℕ → List ℕ
counts_text states lists = codes "states " ++ decimal states ++ 10 ∷ codes "lists " ++ decimal lists ++ 10 ∷ []

-- what a search found: the numbers, and each list of answers with its schedule
abbrev pub answers_text : List (List Op) → ℕ → List Possible → List ℕ
answers_text operations states found = counts_text states (length found) ++ flat_map (possible_text operations) found
