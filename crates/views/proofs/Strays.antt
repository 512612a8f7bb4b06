-- If no read of a register is ever stray, no page shows a stray one.
use Rattle.std.proofs.Common.{◌≡◌, ◌≢◌, ℕ, ◌<◌, Bool, true, false, List, [], ◌∷◌, Option, Some, None, Result, Ok, Err, refl, sym, ap, subst, take, inl, inr}
use Rattle.std.specs.Prelude.{if◌then◌else◌, IfSome, IfOk}
use Rattle.std.specs.List.{All}
use Rattle.std.specs.Option.{unwrap_or}
use Rattle.std.proofs.lemmas.List.Elements.{All-nil, All-cons, All-append, All-take}
use Rattle.frames.specs.declared.types.Op.TheVariants as op
use Rattle.frames.specs.declared.types.Event.{Event}
use Rattle.frames.specs.declared.types.Event.TheVariants.{Invoke, Got, Wrote, Refused, Void, Stop, Chosen}
use Rattle.frames.specs.declared.types.Step.{Step}
use Rattle.frames.specs.declared.verdict.ReadVerdict.{ReadVerdict}
use Rattle.frames.specs.declared.verdict.Verdict.TheVariants.{Stray}
use Rattle.frames.specs.Behaviour.{Behaviour}
use Rattle.frames.specs.Configuration.{fits_step}
use Rattle.frames.specs.Recorded.{AllFit, recorded}
use Rattle.frames.specs.correctness.Verdicts.{Known, accepted, initially, after, verdict_of_event, verdicts_from, verdicts}
use Rattle.frames.specs.correctness.Regularity.{OnReturn, EachRead, NotStray}
use Rattle.frames.specs.correctness.Regularity.{NeverStray}
use Rattle.frames.proofs.NeverStray.{regular_never_stray, atomic_never_stray}
use Rattle.schedule_trie.specs.Forest.{Forest, index_of, path_by}
use Rattle.cutoff.specs.Charts.{StepsFit}
use Rattle.pages.specs.declared.query.EventsKind.{EventsKind}
use Rattle.pages.specs.declared.query.EventsKind.TheVariants as which
use Rattle.pages.specs.declared.query.Query.TheVariants as query
use Rattle.pages.specs.declared.page.Page.{Page}
use Rattle.pages.specs.declared.page.Page.TheVariants as page
use Rattle.views.specs.Looks.{steps_in, events_at, judged_from, NeverShowsStray}
use Rattle.views.specs.Slips.{Slipped}
use Rattle.pages.specs.Strays.{OnVerdicts, AreVerdictsOn, Judges, JudgesRegister, ShowsNoStray, IsRegularOrAtomic, JudgesFrom}

NoneStray : List ReadVerdict → Type 0
NoneStray reads = All (λ read. read.verdict ≢ Stray) reads

verdict_not_stray : (k : Known) (i : ℕ) (e : Event) → OnReturn NotStray k e → NoneStray (verdict_of_event k i e)
unfolding NoneStray
verdict_not_stray k i (Got p v) h = All-cons (λ read. read.verdict ≢ Stray) _ [] h (All-nil (λ read. read.verdict ≢ Stray))
verdict_not_stray k i (Invoke p o) h = All-nil (λ read. read.verdict ≢ Stray)
verdict_not_stray k i (Wrote p) h = All-nil (λ read. read.verdict ≢ Stray)
verdict_not_stray k i (Refused p layer) h = All-nil (λ read. read.verdict ≢ Stray)
verdict_not_stray k i (Void p reason) h = All-nil (λ read. read.verdict ≢ Stray)
verdict_not_stray k i (Stop p) h = All-nil (λ read. read.verdict ≢ Stray)
verdict_not_stray k i (Chosen p bit v) h = All-nil (λ read. read.verdict ≢ Stray)

none_stray : (k : Known) (events : List (ℕ × Event)) → EachRead NotStray k events → NoneStray (verdicts_from k events)
unfolding NoneStray
none_stray k [] h = All-nil (λ read. read.verdict ≢ Stray)
none_stray k (e ∷ es) h =
    All-append (λ read. read.verdict ≢ Stray) (verdict_of_event k e.0 e.1) (verdicts_from (after k e.1) es) (verdict_not_stray k e.0 e.1 h.0) (none_stray (after k e.1) es h.1)

-- if A implies B for every list of verdicts, and A holds of those that a page shows, so does B
on_verdicts : {A B : List ReadVerdict → Type 0} → ((reads : List ReadVerdict) → A reads → B reads) → (p : Page) → OnVerdicts A p → OnVerdicts B p
on_verdicts {A} {B} f (page.Verdict p) h = by p.reads h
  where
    by : (reads : Option (List ReadVerdict)) → IfSome reads A → IfSome reads B
    by None h = tt
    by (Some reads) h = f reads h
on_verdicts f (page.State p) h = tt
on_verdicts f (page.Process p) h = tt
on_verdicts f (page.Bits p) h = tt
on_verdicts f (page.Pending p) h = tt
on_verdicts f (page.History p) h = tt
on_verdicts f (page.Branches p) h = tt
on_verdicts f (page.Cursor p) h = tt
on_verdicts f (page.Steps p) h = tt

verdicts_not_stray : {P : Type 0} (b : Behaviour P) → NeverStray b → (reads : List ReadVerdict) → AreVerdictsOn b reads → NoneStray reads
verdicts_not_stray b never reads of =
    subst NoneStray (sym of.judged) (none_stray (initially of.value) (accepted (recorded b of.value of.steps)) (never of.value of.steps of.within of.fit))

shows_no_stray : {P : Type 0} (b : Behaviour P) → NeverStray b → (p : Page) → Judges b p → ShowsNoStray p
unfolding NoneStray
shows_no_stray b never = on_verdicts (verdicts_not_stray b never)

-- a regular or atomic register never shows a stray read
never_stray : {P : Type 0} (b : Behaviour P) → IsRegularOrAtomic b → NeverStray b
never_stray b (inl regular) = regular_never_stray b regular
never_stray b (inr atomic) = atomic_never_stray b atomic

-- if a page judges the register `judged`, and that register is regular or atomic, the page shows no
-- stray read
pub judged_page_shows_no_stray : {R P E : Type 0} (is : R → Behaviour P) (judged : Option R) (r : Result Page E) → IfOk r (JudgesRegister is judged)
    → IfSome judged (λ register. IsRegularOrAtomic (is register) → IfOk r ShowsNoStray)
judged_page_shows_no_stray is None r h = tt
judged_page_shows_no_stray is (Some register) (Ok p) h = λ lawful. shows_no_stray (is register) (never_stray (is register) lawful) p h
judged_page_shows_no_stray is (Some register) (Err e) h = λ lawful. tt

pub slip_shows_no_stray : {R P E : Type 0} (b : Behaviour P) → IsRegularOrAtomic b → (r : Result (Slipped R) E) → IfOk r (λ slip. Judges b slip.page) → IfOk r (λ slip. ShowsNoStray slip.page)
slip_shows_no_stray b lawful (Ok slip) h = shows_no_stray b (never_stray b lawful) slip.page h
slip_shows_no_stray b lawful (Err e) h = tt

-- a page that judges this register judges the register `judged`, if that is the same register
pub judges_same_register : {R P : Type 0} (is : R → Behaviour P) (register : R) (judged : Option R) → judged ≡ Some register → (p : Page) → Judges (is register) p → JudgesRegister is judged p
judges_same_register is register judged named p h = subst (λ o. JudgesRegister is o p) (sym named) h

-- the page of a branch's events judges what the register records on the branch's first steps
pub events_page_judges : {P : Type 0} (b : Behaviour P) (value : ℕ) (what : EventsKind) (branch : List ℕ) (place : ℕ) (steps : List Step) → value < b.values → AllFit b steps → JudgesFrom value what
    → Judges b (events_at b value what branch place steps)
events_page_judges b value which.History branch place steps within fit h = tt
events_page_judges {P} b value (which.Verdict from) branch place steps within fit h = by from h
  where
    by : (from : Option ℕ) → IfSome from (λ initial. initial ≡ value) → Judges b (events_at b value (which.Verdict from) branch place steps)
    by None h = tt
    by (Some initial) h =
        record {
          value = value;
          steps = take place steps;
          within = within;
          fit = All-take (λ s. fits_step b s ≡ true) place steps fit;
          judged = ap (λ v. verdicts v (recorded b value (take place steps))) h;
        }

-- if each step of each branch fits, so does each step of the branch with this name
pub branch_steps_fit : {P : Type 0} (b : Behaviour P) (f : Forest) (name : List ℕ) → StepsFit b f → AllFit b (steps_in f name)
branch_steps_fit b f name fits = by (index_of f.branches name)
  where
    by : (o : Option ℕ) → AllFit b (unwrap_or (path_by o f) [])
    by None = All-nil (λ s. fits_step b s ≡ true)
    by (Some i) = fits i

-- the page of verdicts judges reads from the register's initial value
pub judged_from_initial : {P : Type 0} (b : Behaviour P) (value : ℕ) → JudgesFrom value (which.Verdict (judged_from b value))
judged_from_initial b value = by (b.suits 1 (op.Write 0))
  where
    by : (t : Bool) → JudgesFrom value (which.Verdict (if t then None else Some value))
    by true = tt
    by false = refl

-- no look at a branch of a regular or atomic register shows a stray read
pub never_shows_stray : {P : Type 0} (b : Behaviour P) → IsRegularOrAtomic b → NeverShowsStray b
never_shows_stray b lawful value f (query.State branch place) within fits = tt
never_shows_stray b lawful value f (query.Process branch place process) within fits = tt
never_shows_stray b lawful value f (query.Bits branch place) within fits = tt
never_shows_stray b lawful value f (query.Pending branch place) within fits = tt
never_shows_stray b lawful value f (query.History branch place) within fits = tt
never_shows_stray b lawful value f (query.Steps branch) within fits = tt
never_shows_stray b lawful value f query.Branches within fits = tt
never_shows_stray b lawful value f (query.Cursor who) within fits = tt
never_shows_stray b lawful value f (query.Verdict branch place) within fits =
    shows_no_stray b (never_stray b lawful) (events_at b value (which.Verdict (judged_from b value)) branch place (steps_in f branch))
    (events_page_judges b value (which.Verdict (judged_from b value)) branch place (steps_in f branch) within (branch_steps_fit b f branch fits) (judged_from_initial b value))
