-- Examples: how the definitions read a bench file, and files with faults.
use Rattle.std.proofs.Common.{ℕ, List, [], ◌∷◌, ◌++◌, Ok, Err, codes, ◌≡◌, refl, true}
use Rattle.frames.specs.declared.types.Step.TheVariants.{Read, Write, Go}
use Rattle.tower_file.specs.declared.tower.TowerSpec.TheVariants.{Safe}
use Rattle.tower_file.specs.declared.fault.FaultKind.TheVariants.{BadHeader, BadStep, BadBranch, Tangled}
use Rattle.tower_file.specs.Faults.{fault}
use Rattle.tower_file.specs.Benches.{Bench, is_lawful_bench}
use Rattle.tower_file.specs.Spelling.{text_with_end}
use Rattle.tower_file.specs.BenchReading.{limbs_of, bench_reading}

-- a bench of a safe bit and three branches
abbrev bench : Bench
bench =
    record {
      tower = Safe 0;
      limbs =
          record { name = codes "main"; from = 0; shared = 0; steps = Read 1 ∷ Write 0 1 ∷ [] }
          ∷ record { name = codes "a"; from = 0; shared = 1; steps = Go 1 0 ∷ [] }
          ∷ record { name = codes "b"; from = 1; shared = 2; steps = Go 1 1 ∷ [] } ∷ [];
    }

-- the first seven of the nine lines of the file that spells `bench`
abbrev first_seven_lines : List ℕ
first_seven_lines =
    text_with_end (codes "bench 1") ++ text_with_end (codes "safe 0") ++ text_with_end (codes "branch main 0 0") ++ text_with_end (codes "r 1") ++ text_with_end (codes "w 0 1")
    ++ text_with_end (codes "branch a 0 1") ++ text_with_end (codes "g 1 0")

-- the nine lines of the file that spells `bench`, with this text in place of line 8
abbrev with_line_8 : List ℕ → List ℕ
with_line_8 text = first_seven_lines ++ text_with_end text ++ text_with_end (codes "g 1 1")

-- the first two lines of the file that spells `bench`, and then this text
abbrev with_line_3 : List ℕ → List ℕ
with_line_3 text = text_with_end (codes "bench 1") ++ text_with_end (codes "safe 0") ++ text

lawful : is_lawful_bench bench ≡ true
lawful = refl

is_read : bench_reading (with_line_8 (codes "branch b 1 2")) ≡ Ok bench
unfolding limbs_of
is_read = refl

last_shared_not_own : bench_reading (with_line_8 (codes "branch b 1 1")) ≡ Err (fault Tangled 8)
unfolding limbs_of
last_shared_not_own = refl

shares_too_many : bench_reading (with_line_8 (codes "branch b 0 3")) ≡ Err (fault Tangled 8)
unfolding limbs_of
shares_too_many = refl

same_name : bench_reading (with_line_8 (codes "branch a 1 2")) ≡ Err (fault BadBranch 8)
unfolding limbs_of
same_name = refl

no_parent : bench_reading (with_line_3 (text_with_end (codes "branch main 0 1"))) ≡ Err (fault Tangled 3)
unfolding limbs_of
no_parent = refl

no_branch : bench_reading (with_line_3 []) ≡ Err (fault BadBranch 3)
unfolding limbs_of
no_branch = refl

step_first : bench_reading (with_line_3 (text_with_end (codes "r 1"))) ≡ Err (fault BadBranch 3)
unfolding limbs_of
step_first = refl

no_line_end : bench_reading (first_seven_lines ++ codes "branch b 1 1") ≡ Err (fault BadBranch 8)
unfolding limbs_of
no_line_end = refl

unfitting_step : bench_reading (first_seven_lines ++ text_with_end (codes "r 0")) ≡ Err (fault BadStep 8)
unfolding limbs_of
unfitting_step = refl

tower_header : bench_reading (text_with_end (codes "tower 2") ++ text_with_end (codes "safe 0")) ≡ Err (fault BadHeader 1)
unfolding limbs_of
tower_header = refl
