-- Definitions that claim that something exists: an example of each, and a near miss.
use Rattle.std.proofs.Common.{ℕ, ◌≡◌, List, [], ◌∷◌, ◌++◌, Some, None, Result, Ok, Err, length, codes, ap, refl, arith}
use Rattle.std.specs.Fmt.{digits}
use Rattle.frames.specs.declared.types.Step.{Step}
use Rattle.frames.specs.declared.types.Step.TheVariants.{Read}
use Rattle.tower_file.specs.declared.fault.FileFault.{FileFault}
use Rattle.tower_file.specs.declared.tower.TowerSpec.TheVariants.{Safe}
use Rattle.tower_file.specs.declared.version.Version.TheVariants.{One}
use Rattle.tower_file.specs.Files.{File, file_of}
use Rattle.tower_file.specs.Reading.{steps_of}
use Rattle.tower_file.specs.Spelling.{spelling, SpellsSteps}
use Rattle.tower_file.specs.Benches.{Bench, bench_of}
use Rattle.tower_file.specs.BenchSpelling.{bench_spelling, SpellsFront}
use Rattle.tower_file.proofs.ReadBack.{reading_again}

-- the file of a safe bit and these steps
abbrev file : List Step → File
file steps = file_of One (Safe 0) steps

-- the bench of a safe bit and a branch `main` without steps
abbrev bench : Bench
bench = bench_of (Safe 0) (record { name = codes "main"; from = 0; shared = 0; steps = [] } ∷ [])

abbrev steps_in : Result File FileFault → ℕ
steps_in (Ok f) = length f.steps
steps_in (Err e) = 0

not_none : {A : Type 0} (x : A) → Some x ≡ None → ⊥
not_none x e = cc

-- a safe bit and the line `r 1`
SpellsSteps-holds : SpellsSteps (spelling (file (Read 1 ∷ [])))
SpellsSteps-holds = record { file = file (Read 1 ∷ []); spells = record { lawful = refl; spelled = refl }; has_steps = omega arith }

-- a safe bit and no line after it
SpellsSteps-fails : SpellsSteps (spelling (file [])) → ⊥
unfolding digits steps_of
SpellsSteps-fails h =
    let read : 0 ≡ length h.file.steps = ap steps_in (reading_again (spelling (file [])) h.file h.spells) in
    omega (arith, read, h.has_steps)

-- a safe bit and its branch, and the beginning of another line
SpellsFront-holds : SpellsFront (bench_spelling bench ++ codes "r")
unfolding digits
SpellsFront-holds = record {
  front = bench_spelling bench;
  rest = codes "r";
  bench = bench;
  spells = record { lawful = refl; spelled = refl };
  parts = refl;
  plain = refl;
}

-- a safe bit and its branch, and a foreign byte
SpellsFront-fails : SpellsFront (bench_spelling bench ++ 0 ∷ []) → ⊥
unfolding digits
SpellsFront-fails h = not_none _ h.plain
