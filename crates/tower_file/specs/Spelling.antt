-- The one spelling of each tower file.
use Rattle.std.specs.Prelude.{◌≡◌, ◌<◌, ℕ, List, [], ◌∷◌, ◌++◌, codes, length}
use Rattle.std.specs.List.{flat_map}
use Rattle.frames.specs.declared.types.Step.{Step}
use Rattle.tower_file.specs.declared.tower.TowerSpec.{TowerSpec}
use Rattle.tower_file.specs.declared.tower.TowerSpec.TheVariants.{Safe, Copies, Regular, Unary, Stamped, Matrix}
use Rattle.words.specs.Words.{word_with_numbers}
use Rattle.words.specs.Steps.{step_text}
use Rattle.tower_file.specs.Versions.{header}
use Rattle.tower_file.specs.Files.{File, IsLawfulFile}

-- a text and then a line end
abbrev pub text_with_end : List ℕ → List ℕ
text_with_end text = text ++ 10 ∷ []

-- the lines of these steps, each with its line end
abbrev pub schedule_text : List Step → List ℕ
schedule_text ss = flat_map (λ s. text_with_end (step_text s)) ss

-- the line of a tower, without a line end: its name and its numbers
abbrev pub tower_text : TowerSpec → List ℕ
tower_text (Safe init) = word_with_numbers (codes "safe") (init ∷ [])
tower_text (Copies readers init) = word_with_numbers (codes "copies") (readers ∷ init ∷ [])
tower_text (Regular readers init) = word_with_numbers (codes "regular") (readers ∷ init ∷ [])
tower_text (Unary values readers init) = word_with_numbers (codes "unary") (values ∷ readers ∷ init ∷ [])
tower_text (Stamped values last) = word_with_numbers (codes "stamped") (values ∷ last ∷ [])
tower_text (Matrix processes values last_tag last_stamp) = word_with_numbers (codes "matrix") (processes ∷ values ∷ last_tag ∷ last_stamp ∷ [])

-- the bytes of a tower file: the header, the tower and the steps, each on a line
abbrev pub spelling : File → List ℕ
spelling f = text_with_end (header f.version) ++ text_with_end (tower_text f.tower) ++ schedule_text f.steps

-- These bytes spell this tower file: the file is lawful, and the bytes are its spelling.
pub record Spells (bytes : List ℕ) (f : File) : Type 0 where
  pub lawful : IsLawfulFile f
  pub spelled : bytes ≡ spelling f

-- These bytes spell a tower file that has at least one step, so that reading it needs memory.
pub record SpellsSteps (bytes : List ℕ) : Type 0 where
  pub file : File
  pub spells : Spells bytes file
  pub has_steps : 0 < length file.steps
