-- What a line is read as: a tower, a step or a branch.
use Rattle.std.specs.Prelude.{ℕ, Bool, List, [], Option, Some, None, codes, if◌then◌else◌}
use Rattle.std.specs.Option.{option_map}
use Rattle.std.specs.Str.{bytes_eq}
use Rattle.frames.specs.declared.types.Step.{Step}
use Rattle.tower_file.specs.declared.tower.TowerSpec.{TowerSpec}
use Rattle.tower_file.specs.declared.tower.TowerSpec.TheVariants as tower
use Rattle.tower_file.specs.declared.line.TowerName.{TowerName}
use Rattle.tower_file.specs.declared.line.TowerName.TheVariants.{Safe, Copies, Regular, Unary, Stamped, Matrix}
use Rattle.branch_terms.specs.declared.limb.Limb.{Limb}
use Rattle.branch_terms.specs.Names as names
use Rattle.words.specs.Words.{words, next, after_next}
use Rattle.words.specs.Options.{◌>>=◌}
use Rattle.words.specs.Numbers.{one_number, two_numbers, three_numbers, four_numbers}
use Rattle.words.specs.Steps.{step_of_words}
use Rattle.tower_file.specs.declared.version.Version.{Version}
use Rattle.tower_file.specs.Versions.{may_have}

-- `name` if `word` is `text`, and `None` otherwise
abbrev pub named : List ℕ → List ℕ → TowerName → Option TowerName
named word text name = if bytes_eq word text then Some name else None

-- the kind of tower that a word names; `None` if it names none
abbrev pub tower_name : List ℕ → Option TowerName
tower_name word =
    if bytes_eq word (codes "safe") then Some Safe
    else (if bytes_eq word (codes "copies") then Some Copies
    else (if bytes_eq word (codes "regular") then Some Regular
    else (if bytes_eq word (codes "unary") then Some Unary
    else (if bytes_eq word (codes "stamped") then Some Stamped
    else (if bytes_eq word (codes "matrix") then Some Matrix
    else None)))))

-- the tower of this kind with the numbers that the words spell; `None` if there are too few or too
-- many words, or if one isn't a number
abbrev pub tower_of_numbers : TowerName → List (List ℕ) → Option TowerSpec
tower_of_numbers Safe ws = option_map (λ init. tower.Safe init) (one_number ws)
tower_of_numbers Copies ws = option_map (λ n. tower.Copies n.0 n.1) (two_numbers ws)
tower_of_numbers Regular ws = option_map (λ n. tower.Regular n.0 n.1) (two_numbers ws)
tower_of_numbers Unary ws = option_map (λ n. tower.Unary n.0 n.1 n.2) (three_numbers ws)
tower_of_numbers Stamped ws = option_map (λ n. tower.Stamped n.0 n.1) (two_numbers ws)
tower_of_numbers Matrix ws = option_map (λ n. tower.Matrix n.0 n.1 n.2 n.3) (four_numbers ws)

-- the step that a line spells; `None` if the line spells none, if the version can't express the
-- step, or if the step doesn't fit the tower
abbrev pub fitting_step : Version → TowerSpec → List ℕ → Option Step
fitting_step v t line = do
  s ← step_of_words (words line)
  if may_have v t s then Some s else None

-- whether the first word of a line is `branch`
abbrev pub is_branch : List ℕ → Bool
is_branch line = bytes_eq (next (words line)) (codes "branch")

-- the limb, still without steps, that the words after `branch` spell. There must be exactly three:
-- the name of the limb's branch, of at most 16 bytes; the number of the branch that the limb's
-- branch starts from; and how many cells the two branches share. `None` if the words don't have
-- this form.
abbrev pub branch_of : List (List ℕ) → Option Limb
branch_of ws = do
  name ← names.name_of_bytes (next ws)
  numbers ← two_numbers (after_next ws)
  Some (record { name = name; from = numbers.0; shared = numbers.1; steps = [] })
