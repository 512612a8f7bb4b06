-- How a run of the program over a file, or without one, ends: what it has read and written, what
-- it returns, and what it saves.
use Rattle.std.specs.Prelude.{◌≡◌, ◌⊎◌, ℕ, Bool, true, false, List, [], Option, Result, Ok, Err}
use Rattle.std.specs.Io.KnownBytes.{Appends}
use Rattle.std.specs.declared.alloc.Global.{Global}
use Rattle.std.specs.declared.vec.Vec.{Vec}
use Rattle.tower_file.specs.Benches.{Bench}
use Rattle.tower_file.specs.BenchSpelling.{SpellsBench}
use Rattle.schedule_trie.specs.declared.limits.Limits.{Limits}
use Rattle.schedule_trie.specs.declared.refusal.Refusal.{Refusal}
use Rattle.branch_terms.specs.Forest.{IsRefused}
use Rattle.branch_terms.specs.Limbs.{forest_of, limbs, loaded}
use Rattle.conversation.specs.declared.fault.StreamFault.{StreamFault}
use Rattle.conversation.specs.Streams.{Streams}
use Rattle.towerbench.specs.StreamFaults.{fault_of_stream}
use Rattle.conversation.specs.Scripts.{lines_of}
use Rattle.conversation.specs.Conversations.{IsAnswered, EndsWithFault, WrotePrefix}
use Rattle.towerbench.specs.declared.fault.Fault.{Fault}
use Rattle.towerbench.specs.declared.fault.Fault.TheVariants as fault
use Rattle.towerbench.specs.BenchSources.{opened_bench, IsUnopened}
use Rattle.towerbench.specs.Courses.{course_on}
use Rattle.command_line.specs.Ranges.{limits_of}
use Rattle.tower_file.specs.Parsed.{as_bench}
use Rattle.towerbench.specs.declared.opening.Setup.{Setup}
use Rattle.towerbench.specs.declared.opening.Reporting.{Reporting}
use Rattle.towerbench.specs.declared.opening.Reporting.TheVariants.{Nothing, Branches}

-- nothing was read or written: the streams hold the same before and after
abbrev pub IsUntouched : Streams → Streams → Type 0
IsUntouched before after = after ≡ before

-- A run of the program on this bench ended well: the bench's branches are within the limits, the
-- script was read to its end, and the answers to all its lines were written.
pub record IsDone (limits : Limits) (b : Bench) (before after : Streams) : Type 0 where
  pub room : loaded limits b.limbs ≡ Ok (forest_of b.limbs)
  pub answered : IsAnswered (course_on b limits).answering before after

-- A run of the program on bench `b` ended well and left the bench `left`: the tower of `b`, and the
-- limbs of the branches that the script's lines left.
pub record IsLeftBench (limits : Limits) (b left : Bench) (before after : Streams) : Type 0 where
  pub done : IsDone limits b before after
  pub tower : left.tower ≡ b.tower
  pub branches : left.limbs ≡ limbs ((course_on b limits).leaving (lines_of done.answered.script) done.answered.refused)

-- A run of the program on this bench ended with this fault of its streams. The bench's branches are
-- within the limits, and what was read and written is as `EndsWithFault` says for this fault.
pub record IsEndedByFault (limits : Limits) (b : Bench) (fault : StreamFault) (before after : Streams) : Type 0 where
  pub room : loaded limits b.limbs ≡ Ok (forest_of b.limbs)
  pub ended : EndsWithFault (course_on b limits).answering fault before after

-- A run of the program on a bench ended with this fault. Either the branches were refused as they
-- were loaded, and nothing was read or written; or a stream failed, the script was too long, or
-- memory ran out, and what was read and written is as `IsEndedByFault` says. If the branches are to
-- be reported (`reports`), memory may also have run out during the report, after a script that
-- ended well.
abbrev pub FailsOver : Bool → Limits → Bench → Streams → Streams → Fault → Type 0
FailsOver reports limits b before after e =
    ((r : Refusal) × (e ≡ fault.Refused r) × IsRefused (loaded limits b.limbs) r × IsUntouched before after)
    ⊎ (((s : StreamFault) × (e ≡ fault_of_stream s) × IsEndedByFault limits b s before after)
    ⊎ ((e ≡ fault.Memory) × (reports ≡ true) × IsDone limits b before after))

-- A run of the program that left the bench `left` returns these bytes: they spell `left` if the
-- branches are to be reported; otherwise there are no bytes.
abbrev pub IsReported : Bool → Bench → List ℕ → Type 0
IsReported true left bytes = SpellsBench bytes left
IsReported false left bytes = bytes ≡ []

-- A run of the program on a bench ended with this result: a fault; or bytes, if the run ended well.
-- If the branches are to be reported (`reports`), the bytes spell the bench that the run left;
-- otherwise there are no bytes.
abbrev pub EndsOver : Bool → Limits → Bench → Streams → Streams → Result (Vec ℕ Global) Fault → Type 0
EndsOver reports limits b before after (Ok bytes) = (left : Bench) × IsLeftBench limits b left before after × IsReported reports left bytes.items
EndsOver reports limits b before after (Err e) = FailsOver reports limits b before after e

-- a run of the program over a file, or without one, ended well: a bench was opened, the script was
-- read to its end, and the answers to all its lines were written
abbrev pub Ran : Option (List ℕ) → Limits → Streams → Streams → Type 0
Ran file limits before after = (b : Bench) × ((opened_bench file ≡ Ok b) × IsDone limits b before after)

-- a bench was opened, as `opened_bench` says, and the run of the program on it ended with this
-- fault
abbrev pub FailsOnceOpen : Bool → Option (List ℕ) → Limits → Streams → Streams → Fault → Type 0
FailsOnceOpen reports file limits before after e = (b : Bench) × ((opened_bench file ≡ Ok b) × FailsOver reports limits b before after e)

-- A run of the program ended with this fault. Either no bench was opened, and nothing was read or
-- written; or a bench was opened, and the run on that bench ended with this fault, as `FailsOver`
-- says.
abbrev pub RanInto : Bool → Option (List ℕ) → Limits → Streams → Streams → Fault → Type 0
RanInto reports file limits before after e =
    (IsUnopened file e × IsUntouched before after) ⊎ FailsOnceOpen reports file limits before after e

-- A run of the program over a file, or without one, ended well and left the branches that these
-- bytes spell.
pub record RanLeaving (file : Option (List ℕ)) (limits : Limits) (bytes : List ℕ) (before after : Streams) : Type 0 where
  pub bench : Bench
  pub left : Bench
  pub opens : opened_bench file ≡ Ok bench
  pub leaves : IsLeftBench limits bench left before after
  pub spells : SpellsBench bytes left

-- a run of the program ended well, and the bytes that spell its tower and the branches that it left
-- were written to the saver, after `kept`, which the saver held before
abbrev pub RanSaving : Option (List ℕ) → Limits → Streams → Streams → Option (List ℕ) → Option (List ℕ) → Type 0
RanSaving file limits before after kept saved = (bytes : List ℕ) × RanLeaving file limits bytes before after × Appends kept saved bytes

-- A run of the program that saves ended with this fault. Either the run itself did, as `RanInto`
-- says, and the saver took nothing; or the fault is Save: the script had ended well, and the saver
-- took a prefix of the bytes that spell the tower and the branches that the script left.
abbrev pub RanSavingInto : Option (List ℕ) → Limits → Streams → Streams → Option (List ℕ) → Option (List ℕ) → Fault → Type 0
RanSavingInto file limits before after kept saved e =
    (RanInto true file limits before after e × (saved ≡ kept))
    ⊎ ((e ≡ fault.Save) × ((bytes : List ℕ) × RanLeaving file limits bytes before after × WrotePrefix kept saved bytes))

-- whether the branches that a run of the program left are to be reported
abbrev pub reports_branches : Reporting → Bool
reports_branches Nothing = false
reports_branches Branches = true

-- A run of the program with this setup, and with this choice of what is returned about the branches
-- that it left, ended with this result.
abbrev pub EndsFrom : Setup → Reporting → Streams → Streams → Result (Vec ℕ Global) Fault → Type 0
EndsFrom setup reporting before after result = EndsOver (reports_branches reporting) (limits_of setup.options) (as_bench setup.bench) before after result
