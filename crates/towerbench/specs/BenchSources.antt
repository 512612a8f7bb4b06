-- The bench (a tower and its branches) that a run of the program opens: that of its file, or,
-- without a file, a safe bit at 0 and one branch without steps.
use Rattle.std.specs.Prelude.{◌≡◌, ℕ, Bool, true, false, List, [], ◌∷◌, Option, Some, None, Result, Ok, MatchOption, codes}
use Rattle.frames.specs.declared.types.Step.{Step}
use Rattle.tower_file.specs.declared.tower.TowerSpec.{TowerSpec}
use Rattle.tower_file.specs.declared.tower.TowerSpec.TheVariants.{Safe}
use Rattle.tower_file.specs.declared.fault.FaultKind.TheVariants as kind
use Rattle.tower_file.specs.declared.fault.FileFault.{FileFault}
use Rattle.tower_file.specs.Faults.{Fails}
use Rattle.tower_file.specs.Files.{File}
use Rattle.tower_file.specs.Reading.{◌>>=◌, file_reading}
use Rattle.tower_file.specs.Spelling.{Spells}
use Rattle.tower_file.specs.Benches.{Bench, bench_of}
use Rattle.tower_file.specs.BenchReading.{bench_reading, is_bench}
use Rattle.tower_file.specs.BenchSpelling.{SpellsFront}
use Rattle.schedule_trie.specs.declared.limb.Limb.{Limb}
use Rattle.schedule_trie.specs.declared.refusal.Refusal.TheVariants.{Memory}
use Rattle.towerbench.specs.declared.fault.Fault.{Fault}
use Rattle.towerbench.specs.declared.fault.Fault.TheVariants as fault

-- the limb of a single branch `main`, which has these steps
abbrev pub main_limb : List Step → Limb
main_limb steps = record { name = codes "main"; from = 0; shared = 0; steps = steps }

-- the bench of a tower with a single branch `main`, which has these steps
abbrev pub one_branch : TowerSpec → List Step → Bench
one_branch t steps = bench_of t (main_limb steps ∷ [])

-- the bench of a tower file: its tower with a single branch `main`, which has the file's steps
abbrev pub tower_file_bench : File → Bench
tower_file_bench f = one_branch f.tower f.steps

-- what bytes are read as, or their first fault: given `true`, a bench file; given `false`, a tower
-- file, whose steps become those of a branch `main`
abbrev pub bench_read_from : Bool → List ℕ → Result Bench FileFault
bench_read_from true bytes = bench_reading bytes
bench_read_from false bytes = file_reading bytes >>= λ f. Ok (tower_file_bench f)

-- what is opened: the bench of the file's bytes, or the first fault in them; without a file, a safe
-- bit at 0 and a branch `main` without steps
abbrev pub opened_bench : Option (List ℕ) → Result Bench FileFault
opened_bench None = Ok (one_branch (Safe 0) [])
opened_bench (Some bytes) = bench_read_from (is_bench bytes) bytes

-- What is known of bytes if memory ran out while they were read. If they were read as a bench file,
-- a prefix spells a bench file, and no byte is foreign; otherwise the bytes spell a tower file.
abbrev pub MayNeedMemory : Bool → List ℕ → Type 0
MayNeedMemory true bytes = SpellsFront bytes
MayNeedMemory false bytes = (f : File) × Spells bytes f

-- reading a file's bytes ends with the fault e: the first fault of the bytes; or Memory, and then
-- the bytes are as `MayNeedMemory` says
abbrev pub IsFileFault : FileFault → List ℕ → Type 0
IsFileFault e bytes = Fails e.kind e (opened_bench (Some bytes)) × (e.kind ≡ kind.Memory → MayNeedMemory (is_bench bytes) bytes)

-- no bench is opened, for this reason: the file has a fault; or, without a file, memory ran out
abbrev pub IsUnopened : Option (List ℕ) → Fault → Type 0
IsUnopened file (fault.File e) = MatchOption file ⊥ (IsFileFault e)
IsUnopened file (fault.Refused r) = (file ≡ None) × (r ≡ Memory)
IsUnopened file fault.Read = ⊥
IsUnopened file fault.Write = ⊥
IsUnopened file fault.TooLong = ⊥
IsUnopened file fault.Memory = ⊥
IsUnopened file fault.Save = ⊥
