-- How the program ends, given what its words ask for.
use Rattle.std.specs.Prelude.{◌≡◌, ◌⊎◌, ⊤, ℕ, Bool, true, List, Option, Result, Ok, Err}
use Rattle.std.specs.Option.{is_some}
use Rattle.std.specs.Io.KnownBytes.{Appends}
use Rattle.clap.specs.Words.{Text}
use Rattle.schedule_trie.specs.declared.limits.Limits.{Limits}
use Rattle.command_line.specs.declared.options.Options.{Options}
use Rattle.command_line.specs.Ranges.{limits_of}
use Rattle.conversation.specs.Streams.{Streams}
use Rattle.command_line.specs.CommandLine.{Says, AsksHelp, IsWrong}
use Rattle.towerbench.specs.declared.fault.Fault.{Fault}
use Rattle.towerbench.specs.declared.fault.Fault.TheVariants as fault
use Rattle.towerbench.specs.declared.fault.ProgramFault.{ProgramFault}
use Rattle.towerbench.specs.declared.fault.ProgramFault.TheVariants.{Source, Run, Help, Memory}
use Rattle.towerbench.specs.declared.ending.Ending.{Ending}
use Rattle.towerbench.specs.declared.ending.Ending.TheVariants.{Done, Refused, Faulted}
use Rattle.towerbench.specs.BenchSources.{IsUnopened}
use Rattle.towerbench.specs.RunEndings.{IsUntouched, Ran, RanInto}

-- the bytes of a file are given exactly if the words name a file
abbrev pub IsReadIfNamed : Bool → Option (List ℕ) → Type 0
IsReadIfNamed named bytes = is_some bytes ≡ named

-- how the program ends, given the result of its run
abbrev pub ending_of : Result ⊤ Fault → Ending
ending_of (Ok done) = Done
ending_of (Err e) = Faulted (Run e)

-- A run of the program over a file of these bytes, or without a file, ended with this fault. Either
-- the run itself did, as `RanInto` says; or the fault is Save: saving was asked for (`saves`), and
-- the script had ended well.
abbrev pub FailsBy : Bool → Option (List ℕ) → Limits → Streams → Streams → Fault → Type 0
FailsBy saves bytes limits before after e =
    RanInto saves bytes limits before after e ⊎ ((e ≡ fault.Save) × (saves ≡ true) × Ran bytes limits before after)

-- The program has this fault before there are branches to work on: the named file can't be read, or
-- its bytes have a fault, or, without a file, there is no memory for the branches.
abbrev pub IsFaultBeforeBench : Bool → ProgramFault → Type 0
IsFaultBeforeBench named (Source e) = named ≡ true
IsFaultBeforeBench named (Run e) = (bytes : Option (List ℕ)) × IsReadIfNamed named bytes × IsUnopened bytes e
IsFaultBeforeBench named Help = ⊥
IsFaultBeforeBench named Memory = ⊥

-- A run of the program over the named file, or without a file, ends in this way. It ends well; or
-- the file can't be read, and then nothing was read from the script or written; or the run or the
-- save has a fault, as `FailsBy` says.
abbrev pub WorksOut : Bool → Limits → Bool → Streams → Streams → Ending → Type 0
WorksOut named limits saves before after Done = (bytes : Option (List ℕ)) × IsReadIfNamed named bytes × Ran bytes limits before after
WorksOut named limits saves before after (Refused text) = ⊥
WorksOut named limits saves before after (Faulted (Source e)) = (named ≡ true) × IsUntouched before after
WorksOut named limits saves before after (Faulted (Run e)) = (bytes : Option (List ℕ)) × IsReadIfNamed named bytes × FailsBy saves bytes limits before after e
WorksOut named limits saves before after (Faulted Help) = ⊥
WorksOut named limits saves before after (Faulted Memory) = ⊥

-- The words are accepted. They give options, and may name a file and a path to save to. With these,
-- the run of the program ends in this way.
abbrev pub RunsBy : List Text → Streams → Streams → Ending → Type 0
RunsBy words before after ending = (file : Option Text) × ((options : Options) × ((save : Option Text)
    × (Says words file options save × WorksOut (is_some file) (limits_of options) (is_some save) before after ending)))

-- The printing of the help ended in this way: done, or with the fault Help. Either way, the writer
-- kept the bytes that it held, and some bytes, or none, were added after them; this doesn't say
-- which bytes, or how many.
abbrev pub IsPrinted : Option (List ℕ) → Option (List ℕ) → Ending → Type 0
IsPrinted before after Done = (help : List ℕ) × Appends before after help
IsPrinted before after (Refused text) = ⊥
IsPrinted before after (Faulted Help) = (front : List ℕ) × Appends before after front
IsPrinted before after (Faulted (Source e)) = ⊥
IsPrinted before after (Faulted (Run e)) = ⊥
IsPrinted before after (Faulted Memory) = ⊥

-- The words ask for the help. Nothing is read from the script, and the printing of the help ends in
-- this way: done, or with the fault Help.
abbrev pub HelpsBy : List Text → Streams → Streams → Ending → Type 0
HelpsBy words before after ending = AsksHelp words × (after.unread ≡ before.unread) × IsPrinted before.written after.written ending

-- How the program ends. It is done if the words ask for the help and the help was written, or if
-- the words are accepted and the script was answered. The words are refused only if they are wrong.
-- A fault means that the file couldn't be read, that the run of the program or the save failed,
-- that a write of the help failed, or that there was no memory to read the words.
abbrev pub ProgramEndsBy : List Text → Streams → Streams → Ending → Type 0
ProgramEndsBy words before after Done = HelpsBy words before after Done ⊎ RunsBy words before after Done
ProgramEndsBy words before after (Refused text) = IsWrong words × IsUntouched before after
ProgramEndsBy words before after (Faulted Help) = HelpsBy words before after (Faulted Help)
ProgramEndsBy words before after (Faulted Memory) = IsUntouched before after
ProgramEndsBy words before after (Faulted (Source e)) = RunsBy words before after (Faulted (Source e))
ProgramEndsBy words before after (Faulted (Run e)) = RunsBy words before after (Faulted (Run e))

-- the program's exit status: 0 if it is done, 2 if the words are refused, 1 after a fault
abbrev pub exit_status : Ending → ℕ
exit_status Done = 0
exit_status (Refused text) = 2
exit_status (Faulted e) = 1
