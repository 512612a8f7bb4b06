-- What holds of the verdicts that a page shows: which register they are on, and that none is stray.
use Rattle.std.specs.Prelude.{◌≡◌, ◌≢◌, ℕ, ◌<◌, ◌⊎◌, ⊤, List, Option, IfSome}
use Rattle.std.specs.List.{All}
use Rattle.frames.specs.declared.types.Step.{Step}
use Rattle.frames.specs.declared.verdict.ReadVerdict.{ReadVerdict}
use Rattle.frames.specs.declared.verdict.Verdict.TheVariants.{Stray}
use Rattle.frames.specs.Behaviour.{Behaviour}
use Rattle.frames.specs.Recorded.{AllFit, recorded}
use Rattle.frames.specs.correctness.Regularity.{IsAtomic, IsRegular}
use Rattle.frames.specs.correctness.Verdicts.{verdicts}
use Rattle.pages.specs.declared.query.EventsKind.{EventsKind}
use Rattle.pages.specs.declared.query.EventsKind.TheVariants as which
use Rattle.pages.specs.declared.page.Page.{Page}
use Rattle.pages.specs.declared.page.Page.TheVariants.{State, Process, Bits, Pending, History, Verdict, Branches, Cursor, Steps}

-- `Says` holds of the verdicts that a page shows, if it shows verdicts
abbrev pub OnVerdicts : (List ReadVerdict → Type 0) → Page → Type 0
OnVerdicts Says (Verdict page) = IfSome page.reads Says
OnVerdicts Says (State page) = ⊤
OnVerdicts Says (Process page) = ⊤
OnVerdicts Says (Bits page) = ⊤
OnVerdicts Says (Pending page) = ⊤
OnVerdicts Says (History page) = ⊤
OnVerdicts Says (Branches page) = ⊤
OnVerdicts Says (Cursor page) = ⊤
OnVerdicts Says (Steps page) = ⊤

-- `reads` are the verdicts on a history of a register: on what it records for some fitting steps,
-- from some initial value
pub record AreVerdictsOn {P : Type 0} (b : Behaviour P) (reads : List ReadVerdict) : Type 0 where
  pub value : ℕ
  pub steps : List Step
  pub within : value < b.values
  pub fit : AllFit b steps
  pub judged : reads ≡ verdicts value (recorded b value steps)

-- if a page shows verdicts, they are on a history that this register records
abbrev pub Judges : {P : Type 0} → Behaviour P → Page → Type 0
Judges b page = OnVerdicts (AreVerdictsOn b) page

-- if `judged` is a register, not `None`, and a page shows verdicts, they are on a history that this
-- register records
abbrev pub JudgesRegister : {R P : Type 0} → (R → Behaviour P) → Option R → Page → Type 0
JudgesRegister is judged page = IfSome judged (λ register. Judges (is register) page)

-- if a page shows verdicts, none of them is stray: each read gives the fresh value, or that of a
-- write that overlaps it
abbrev pub ShowsNoStray : Page → Type 0
ShowsNoStray page = OnVerdicts (λ reads. All (λ read. read.verdict ≢ Stray) reads) page

-- a register is regular, or atomic
abbrev pub IsRegularOrAtomic : {P : Type 0} → Behaviour P → Type 0
IsRegularOrAtomic b = IsRegular b ⊎ IsAtomic b

-- if a page of this kind shows verdicts, the initial value that they depend on is `value`
abbrev pub JudgesFrom : ℕ → EventsKind → Type 0
JudgesFrom value (which.Verdict from) = IfSome from (λ initial. initial ≡ value)
JudgesFrom value which.History = ⊤
