-- What a search on the register of a tower finds.
use Rattle.std.specs.Prelude.{List}
use Rattle.frames.specs.SafeBit.{safe_behaviour}
use Rattle.towers.specs.Towers.{copies_tower, regular_tower, unary_tower, stamped_tower, matrix_tower}
use Rattle.tower_file.specs.declared.tower.TowerSpec.{TowerSpec}
use Rattle.tower_file.specs.declared.tower.TowerSpec.TheVariants.{Safe, Copies, Regular, Unary, Stamped, Matrix}
use Rattle.answers.specs.declared.found.Possible.{Possible}
use Rattle.answers.specs.declared.question.Question.{Question}
use Rattle.answers.specs.Questions.{FitsQuestion}
use Rattle.answers.specs.Answers.{AllAnswered}

-- Just the answers that the question can have on the tower's register are listed, each once, with a
-- schedule as short as any.
abbrev pub AreAnswersOn : TowerSpec → Question → List Possible → Type 0
AreAnswersOn (Safe init) q found = AllAnswered safe_behaviour q found
AreAnswersOn (Copies readers init) q found = AllAnswered (copies_tower readers) q found
AreAnswersOn (Regular readers init) q found = AllAnswered (regular_tower readers) q found
AreAnswersOn (Unary values readers init) q found = AllAnswered (unary_tower values readers) q found
AreAnswersOn (Stamped values last) q found = AllAnswered (stamped_tower values last) q found
AreAnswersOn (Matrix processes values last_tag last_stamp) q found = AllAnswered (matrix_tower processes values last_tag last_stamp) q found

-- the question fits the tower's register
abbrev pub FitsTower : TowerSpec → Question → Type 0
FitsTower (Safe init) q = FitsQuestion safe_behaviour q
FitsTower (Copies readers init) q = FitsQuestion (copies_tower readers) q
FitsTower (Regular readers init) q = FitsQuestion (regular_tower readers) q
FitsTower (Unary values readers init) q = FitsQuestion (unary_tower values readers) q
FitsTower (Stamped values last) q = FitsQuestion (stamped_tower values last) q
FitsTower (Matrix processes values last_tag last_stamp) q = FitsQuestion (matrix_tower processes values last_tag last_stamp) q
