-- Definitions that claim that something exists: an example of each, and a near miss.
use Rattle.std.proofs.Common.{ℕ, ◌≡◌, true, false, inl, inr, List, [], ◌∷◌, Option, Some, None, Ok, Err, slice_index_or, ap, refl, ◌∙◌, arith}
use Rattle.std.specs.Fmt.{digits}
use Rattle.clap.specs.Faults.{walk_fault, defaults_fault}
use Rattle.schedule_trie.specs.declared.limits.Limits.{Limits}
use Rattle.tower_file.specs.declared.tower.TowerSpec.TheVariants.{Safe}
use Rattle.tower_file.specs.declared.version.Version.TheVariants.{One}
use Rattle.tower_file.specs.declared.fault.FileFault.{FileFault}
use Rattle.tower_file.specs.Files.{File, file_of}
use Rattle.tower_file.specs.Spelling.{spelling}
use Rattle.tower_file.specs.Benches.{Bench}
use Rattle.tower_file.specs.BenchSpelling.{bench_spelling}
use Rattle.tower_file.proofs.ReadBack.{reading_again}
use Rattle.conversation.specs.declared.fault.StreamFault.TheVariants as stream
use Rattle.conversation.specs.Streams.{Streams, streams}
use Rattle.conversation.specs.Conversations.{Answering}
use Rattle.command_line.specs.CommandLine.{Says, default_options}
use Rattle.command_line.specs.Ranges.{AreOptionsInRange, limits_of}
use Rattle.towerbench.specs.declared.fault.Fault.TheVariants as fault
use Rattle.towerbench.specs.declared.fault.ProgramFault.TheVariants.{Memory}
use Rattle.towerbench.specs.declared.ending.Ending.{Ending}
use Rattle.towerbench.specs.declared.ending.Ending.TheVariants.{Done, Refused, Faulted}
use Rattle.towerbench.specs.StreamFaults.{IsOfStreams, EndsWithStreamFault}
use Rattle.towerbench.specs.BenchSources.{one_branch, MayNeedMemory}
use Rattle.towerbench.specs.RunEndings.{IsDone, Ran, FailsOver, FailsOnceOpen, RanLeaving, RanSaving, RanSavingInto}
use Rattle.towerbench.specs.Endings.{WorksOut, RunsBy, IsPrinted, ProgramEndsBy, exit_status}

-- a safe bit at 0 with one branch without steps, as without a file
abbrev bench : Bench
bench = one_branch (Safe 0) []

abbrev limits : Limits
limits = limits_of default_options

abbrev empty : Option (List ℕ)
empty = Some []

-- the streams, with nothing to read and with one byte to read
abbrev nothing : Streams
nothing = streams empty empty

abbrev one_byte : Streams
one_byte = streams (Some (33 ∷ [])) empty

-- no line has an answer
abbrev silent : Answering
silent lines refused = []

some_left : ◌≡◌ {A = List ℕ} (33 ∷ []) [] → ⊥
some_left e = cc

-- an empty script has no answers
abbrev done : IsDone limits bench nothing nothing
done = record { room = refl; answered = record { script = []; refused = λ number. false; read = refl; ended = refl; short = omega arith; wrote = refl } }

leaving : RanLeaving None limits (bench_spelling bench) nothing nothing
leaving = record {
  bench = bench;
  left = bench;
  opens = refl;
  leaves = record { done = done; tower = refl; branches = refl };
  spells = record { lawful = refl; spelled = refl };
}

-- an empty script was answered
Ran-holds : Ran None limits nothing nothing
Ran-holds = (bench, (refl, done))

-- a byte of the script is not read
Ran-fails : Ran None limits one_byte one_byte → ⊥
Ran-fails h = some_left h.1.1.answered.ended

-- a tower file without steps
MayNeedMemory-holds : MayNeedMemory false (spelling (file_of One (Safe 0) []))
MayNeedMemory-holds = (file_of One (Safe 0) [], record { lawful = refl; spelled = refl })

-- a tower file of a safe bit at 2
MayNeedMemory-fails : MayNeedMemory false (spelling (file_of One (Safe 2) [])) → ⊥
unfolding digits
MayNeedMemory-fails h = no_file _ h.0 (reading_again _ h.0 h.1)
  where
    no_file : (e : FileFault) (f : File) → Err e ≡ Ok f → ⊥
    no_file e f is = cc

-- a read of the script failed
IsOfStreams-holds : IsOfStreams fault.Read
IsOfStreams-holds = (stream.Read, refl)

-- a save that failed isn't a fault of the script's streams
IsOfStreams-fails : IsOfStreams fault.Save → ⊥
IsOfStreams-fails (stream.Read, e) = cc
IsOfStreams-fails (stream.Write, e) = cc
IsOfStreams-fails (stream.TooLong, e) = cc
IsOfStreams-fails (stream.Memory, e) = cc

-- the first read failed, so nothing was read or written
EndsWithStreamFault-holds : EndsWithStreamFault silent fault.Read one_byte one_byte
EndsWithStreamFault-holds = (stream.Read, refl, record { seen = []; refused = λ number. false; text = []; read = refl; few = omega arith; wrote = refl; went = refl })

-- a save that failed isn't a fault of the script's streams
EndsWithStreamFault-fails : EndsWithStreamFault silent fault.Save one_byte one_byte → ⊥
EndsWithStreamFault-fails h = IsOfStreams-fails (h.0, h.1)

-- there was no memory to report the branches that a run left
FailsOver-holds : FailsOver true limits bench nothing nothing fault.Memory
FailsOver-holds = inr (inr (refl, refl, done))

-- a run on a bench doesn't end with a failed save
FailsOver-fails : (b : Bench) (before after : Streams) → FailsOver true limits b before after fault.Save → ⊥
FailsOver-fails b before after (inl h) = cc
FailsOver-fails b before after (inr (inl (e, is, h))) = IsOfStreams-fails (e, is)
FailsOver-fails b before after (inr (inr h)) = cc

-- there was no memory to report the branches that a run left
FailsOnceOpen-holds : FailsOnceOpen true None limits nothing nothing fault.Memory
FailsOnceOpen-holds = (bench, (refl, FailsOver-holds))

-- a run on an opened bench doesn't end with a failed save
FailsOnceOpen-fails : FailsOnceOpen true None limits nothing nothing fault.Save → ⊥
FailsOnceOpen-fails h = FailsOver-fails h.0 nothing nothing h.1.1

-- an empty script leaves the branches as they were opened
RanLeaving-holds : RanLeaving None limits (bench_spelling bench) nothing nothing
RanLeaving-holds = leaving

-- a byte of the script is not read
RanLeaving-fails : RanLeaving None limits (bench_spelling bench) one_byte one_byte → ⊥
RanLeaving-fails h = some_left h.leaves.done.answered.ended

-- the bytes of these branches are saved
RanSaving-holds : RanSaving None limits nothing nothing empty (Some (bench_spelling bench))
RanSaving-holds = (bench_spelling bench, leaving, refl)

-- nothing was saved, although the run ended well
RanSaving-fails : RanSaving None limits nothing nothing empty empty → ⊥
RanSaving-fails h = no_bench h.0 h.1.left (h.1.spells.spelled) h.2
  where
    no_bench : (bytes : List ℕ) (left : Bench) → bytes ≡ bench_spelling left → [] ≡ bytes → ⊥
    no_bench bytes left spelled none = let e : 7 ≡ 98 = ap (λ bytes. slice_index_or bytes 0 7) (none ∙ spelled) in omega (arith, e)

-- the first write to the saver failed
RanSavingInto-holds : RanSavingInto None limits nothing nothing empty empty fault.Save
RanSavingInto-holds = inr (refl, (bench_spelling bench, leaving, ([], (bench_spelling bench, refl), refl)))

-- a save failed, although a byte of the script was left unread
RanSavingInto-fails : RanSavingInto None limits one_byte one_byte empty empty fault.Save → ⊥
RanSavingInto-fails (inl (inl h, kept)) = absurd h.0
RanSavingInto-fails (inl (inr h, kept)) = FailsOver-fails h.0 one_byte one_byte h.1.1
RanSavingInto-fails (inr h) = some_left h.1.1.leaves.done.answered.ended

-- no file is named, and an empty script was answered
WorksOut-holds : WorksOut false limits false nothing nothing Done
WorksOut-holds = (None, refl, (bench, (refl, done)))

-- a byte of the script is not read
WorksOut-fails : WorksOut false limits false one_byte one_byte Done → ⊥
WorksOut-fails h = some_left h.2.1.1.answered.ended

-- there are no words, and an empty script was answered
RunsBy-holds : RunsBy [] nothing nothing Done
unfolding walk_fault defaults_fault
RunsBy-holds = (None, (default_options, (None, (says, (None, refl, (bench, (refl, done)))))))
  where
    in_ranges : AreOptionsInRange default_options
    in_ranges = record {
      few_workers = omega arith;
      some_cells = omega arith;
      few_cells = omega arith;
      some_branches = omega arith;
      few_branches = omega arith;
    }

    says : Says [] None default_options None
    says = record { taken = refl; file_is = refl; options_are = refl; save_is = refl; limits = in_ranges }

-- a byte of the script is not read
RunsBy-fails : RunsBy [] one_byte one_byte Done → ⊥
RunsBy-fails h = some_left h.1.1.1.1.2.1.1.answered.ended

-- the byte 2 was written after 1
IsPrinted-holds : IsPrinted (Some (1 ∷ [])) (Some (1 ∷ 2 ∷ [])) Done
IsPrinted-holds = (2 ∷ [], refl)

-- the byte 2 was written instead of 1
IsPrinted-fails : IsPrinted (Some (1 ∷ [])) (Some (2 ∷ [])) Done → ⊥
IsPrinted-fails h = let e : 2 ≡ 1 = ap (λ bytes. slice_index_or bytes 0 7) h.1 in omega (arith, e)

-- there was no memory to read the words: status 1
tool-holds : (ending : Ending) × ProgramEndsBy [] nothing nothing ending × (1 ≡ exit_status ending)
tool-holds = (Faulted Memory, refl, refl)

-- however the program ends, its status is not 3
tool-fails : (ending : Ending) × ProgramEndsBy [] nothing nothing ending × (3 ≡ exit_status ending) → ⊥
tool-fails h = by h.0 h.2
  where
    by : (ending : Ending) → 3 ≡ exit_status ending → ⊥
    by Done e = omega (arith, e)
    by (Refused text) e = omega (arith, e)
    by (Faulted e) is = omega (arith, is)
