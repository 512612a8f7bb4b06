-- Steps as words, and as text.
use Rattle.std.specs.Prelude.{ℕ, ◌<◌, ◌^◌, List, [], ◌∷◌, Option, None, codes, if◌then◌else◌}
use Rattle.std.specs.Option.{option_map}
use Rattle.std.specs.Str.{bytes_eq}
use Rattle.frames.specs.declared.types.Step.{Step}
use Rattle.frames.specs.declared.types.Step.TheVariants as step
use Rattle.words.specs.Words.{next, after_next, word_with_numbers}
use Rattle.words.specs.Numbers.{one_number, two_numbers}

-- the step that words spell as `w P V`, `r P`, `g P C` or `x P`, with no more words; `None` if they
-- spell no step
abbrev pub step_of_words : List (List ℕ) → Option Step
step_of_words ws =
    if bytes_eq (next ws) (codes "w") then option_map (λ n. step.Write n.0 n.1) (two_numbers (after_next ws))
    else (if bytes_eq (next ws) (codes "r") then option_map (λ p. step.Read p) (one_number (after_next ws))
    else (if bytes_eq (next ws) (codes "g") then option_map (λ n. step.Go n.0 n.1) (two_numbers (after_next ws))
    else (if bytes_eq (next ws) (codes "x") then option_map (λ p. step.Stop p) (one_number (after_next ws))
    else None)))

-- the text that spells a step: its letter and then, for each of its numbers, a space and the number
abbrev pub step_text : Step → List ℕ
step_text (step.Write p v) = word_with_numbers (codes "w") (p ∷ v ∷ [])
step_text (step.Read p) = word_with_numbers (codes "r") (p ∷ [])
step_text (step.Go p c) = word_with_numbers (codes "g") (p ∷ c ∷ [])
step_text (step.Stop p) = word_with_numbers (codes "x") (p ∷ [])

-- Each number of a step is below 10 ^ 9, so that it has a spelling of at most 9 digits.
abbrev pub HasShortNumbers : Step → Type 0
HasShortNumbers (step.Write p v) = (p < 10 ^ 9) × (v < 10 ^ 9)
HasShortNumbers (step.Read p) = p < 10 ^ 9
HasShortNumbers (step.Go p c) = (p < 10 ^ 9) × (c < 10 ^ 9)
HasShortNumbers (step.Stop p) = p < 10 ^ 9
