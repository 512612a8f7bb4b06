-- The one spelling of each bench file.
use Rattle.std.specs.Prelude.{◌≡◌, ℕ, List, [], ◌∷◌, ◌++◌, None, codes, true}
use Rattle.std.specs.List.{flat_map, join_with_byte}
use Rattle.branch_terms.specs.declared.limb.Limb.{Limb}
use Rattle.words.specs.Words.{word_with_numbers}
use Rattle.words.specs.Steps.{step_text}
use Rattle.tower_file.specs.declared.tower.TowerSpec.{TowerSpec}
use Rattle.tower_file.specs.Benches.{Bench, IsLawfulBench, has_limbs, are_lawful}
use Rattle.tower_file.specs.Spelling.{text_with_end, tower_text}
use Rattle.tower_file.specs.Reading.{first_foreign}

-- the first line of a bench file
abbrev pub bench_header : List ℕ
bench_header = codes "bench 1"

-- the line of a limb's branch, without a line end: `branch`, the name of the limb's branch, the
-- number of the branch that the limb's branch starts from, and how many cells the two branches
-- share
abbrev pub branch_text : Limb → List ℕ
branch_text l = codes "branch" ++ 32 ∷ word_with_numbers l.name (l.from ∷ l.shared ∷ [])

-- the lines of a limb: its branch and its own steps, each on a line
abbrev pub limb_text : Limb → List ℕ
limb_text l = text_with_end (branch_text l) ++ flat_map (λ s. text_with_end (step_text s)) l.steps

-- the bytes of a bench file: the lines of its header, its tower and its limbs
abbrev pub bench_spelling : Bench → List ℕ
bench_spelling b = text_with_end bench_header ++ text_with_end (tower_text b.tower) ++ flat_map limb_text b.limbs

-- These bytes spell this bench file: the file is lawful, and the bytes are its spelling.
pub record SpellsBench (bytes : List ℕ) (b : Bench) : Type 0 where
  pub lawful : IsLawfulBench b
  pub spelled : bytes ≡ bench_spelling b

-- These lines, joined by line ends, begin with the spelling of one or more limbs, and a bench file
-- on this tower can have those limbs.
pub record SpellsLimbs (t : TowerSpec) (ls : List (List ℕ)) : Type 0 where
  pub limbs : List Limb
  pub rest : List ℕ
  pub nonempty : has_limbs limbs ≡ true
  pub lawful : are_lawful t limbs ≡ true
  pub parts : join_with_byte 10 ls ≡ flat_map limb_text limbs ++ rest

-- No byte is foreign, and a prefix of the bytes spells a bench file; so any fault is after that
-- prefix.
pub record SpellsFront (bytes : List ℕ) : Type 0 where
  pub front : List ℕ
  pub rest : List ℕ
  pub bench : Bench
  pub spells : SpellsBench front bench
  pub parts : bytes ≡ front ++ rest
  pub plain : first_foreign bytes ≡ None
