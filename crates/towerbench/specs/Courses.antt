-- What scripts do on a tower and its branches: the answers to their lines, and the branches that
-- they leave.
use Rattle.std.specs.Prelude.{ℕ, List}
use Rattle.frames.specs.SafeBit.{safe_behaviour}
use Rattle.towers.specs.Towers.{copies_tower, regular_tower, unary_tower, stamped_tower, matrix_tower}
use Rattle.tower_file.specs.declared.tower.TowerSpec.{TowerSpec}
use Rattle.tower_file.specs.declared.tower.TowerSpec.TheVariants.{Safe, Copies, Regular, Unary, Stamped, Matrix}
use Rattle.tower_file.specs.Benches.{Bench}
use Rattle.schedule_trie.specs.declared.limb.Limb.{Limb}
use Rattle.schedule_trie.specs.declared.limits.Limits.{Limits}
use Rattle.branch_terms.specs.Forest.{Forest}
use Rattle.sessions.specs.World.{World, opening_of_limbs}
use Rattle.script.specs.Answers.{answer_line}
use Rattle.conversation.specs.Scripts.{RefusedMemory, after_lines, answers_to}
use Rattle.conversation.specs.Conversations.{Answering}

-- What scripts do. From a script's lines, and from which of them were refused memory, `answering`
-- gives the answers, and `leaving` gives the branches that the lines leave.
pub record Course : Type 0 where
  pub answering : Answering
  pub leaving : List (List ℕ) → RefusedMemory → Forest

-- the course of scripts (their answers, and the branches that they leave) whose first line finds
-- this world
abbrev pub course_from : {P : Type 0} → World P → Course
course_from w = record { answering = answers_to answer_line w; leaving = λ lines refused. (after_lines answer_line w lines refused).world.forest }

-- the course of scripts (their answers, and the branches that they leave) on a tower from its
-- initial value, with these limits and the branches of these limbs
abbrev pub course_of : TowerSpec → Limits → List Limb → Course
course_of (Safe init) limits ls = course_from (opening_of_limbs safe_behaviour init limits ls)
course_of (Copies readers init) limits ls = course_from (opening_of_limbs (copies_tower readers) init limits ls)
course_of (Regular readers init) limits ls = course_from (opening_of_limbs (regular_tower readers) init limits ls)
course_of (Unary values readers init) limits ls = course_from (opening_of_limbs (unary_tower values readers) init limits ls)
course_of (Stamped values last) limits ls = course_from (opening_of_limbs (stamped_tower values last) 0 limits ls)
course_of (Matrix processes values last_tag last_stamp) limits ls = course_from (opening_of_limbs (matrix_tower processes values last_tag last_stamp) 0 limits ls)

-- the course of scripts (their answers, and the branches that they leave) on a bench, with these
-- limits
abbrev pub course_on : Bench → Limits → Course
course_on b limits = course_of b.tower limits b.limbs
