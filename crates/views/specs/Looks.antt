-- Looks at the branches of a forest: why a look is refused, and the page that it shows.
use Rattle.std.specs.Prelude.{ℕ, ◌≡◌, ◌<◌, Bool, true, false, List, [], Option, Some, None, IfSome, Result, Ok, take, length, if◌then◌else◌}
use Rattle.std.specs.Option.{unwrap_or}
use Rattle.frames.specs.declared.types.Op.TheVariants as op
use Rattle.frames.specs.declared.types.Step.{Step}
use Rattle.frames.specs.Behaviour.{Behaviour}
use Rattle.schedule_trie.specs.declared.refusal.Refusal.{Refusal}
use Rattle.schedule_trie.specs.Forest.{Forest, path_of}
use Rattle.schedule_trie.specs.Trie.{forest}
use Rattle.cutoff.specs.Charts.{Charted, StepsFit, look}
use Rattle.pages.specs.declared.page.head.Head.{Head}
use Rattle.pages.specs.declared.query.ConfigKind.{ConfigKind}
use Rattle.pages.specs.declared.query.ConfigKind.TheVariants as kind
use Rattle.pages.specs.declared.query.EventsKind.{EventsKind}
use Rattle.pages.specs.declared.query.EventsKind.TheVariants as which
use Rattle.pages.specs.declared.query.Query.{Query}
use Rattle.pages.specs.declared.query.Query.TheVariants.{State, Process, Bits, Pending, History, Verdict, Branches, Cursor, Steps}
use Rattle.pages.specs.declared.page.Page.{Page}
use Rattle.pages.specs.declared.page.Page.TheVariants as page
use Rattle.frames.specs.Recorded.{configuration_after, recorded}
use Rattle.pages.specs.Pages.{config_page, events_page}
use Rattle.pages.specs.Strays.{ShowsNoStray}

-- The result of a look is the forest, which it leaves unchanged, or an error: NoBranch if there is
-- no such branch, NoPlace if the branch has fewer than `place` steps. A look at a branch's steps is
-- refused only if there is no such branch. A look at all branches or at a cursor is never refused.
abbrev pub looked : Query → Forest → Result Forest Refusal
looked (State branch place) f = look f branch place
looked (Process branch place process) f = look f branch place
looked (Bits branch place) f = look f branch place
looked (Pending branch place) f = look f branch place
looked (History branch place) f = look f branch place
looked (Verdict branch place) f = look f branch place
looked (Steps branch) f = look f branch 0
looked Branches f = Ok f
looked (Cursor who) f = Ok f

-- the steps of a branch; no steps if there is no such branch
abbrev pub steps_in : Forest → List ℕ → List Step
steps_in f branch = unwrap_or (path_of f branch) []

-- the first line of a page that shows a branch after its first `place` steps; `steps` are all its
-- steps
abbrev pub head_at : List ℕ → ℕ → List Step → Head
head_at branch place steps = record { branch = branch; place = place; len = length steps }

-- the page of the kind `what` that shows the configuration after a branch's first `place` steps;
-- `branch` is the branch's name, `steps` are all its steps, and `value` is the register's initial
-- value
abbrev pub config_at : {P : Type 0} → Behaviour P → ℕ → ConfigKind → List ℕ → ℕ → List Step → Page
config_at b value what branch place steps = config_page b what (head_at branch place steps) (configuration_after b value (take place steps))

-- the page of the kind `what` that shows the events of a branch's first `place` steps
abbrev pub events_at : {P : Type 0} → Behaviour P → ℕ → EventsKind → List ℕ → ℕ → List Step → Page
events_at b value what branch place steps = events_page what (head_at branch place steps) (recorded b value (take place steps))

-- the initial value, which verdicts depend on; `None` if process 1 can write too, since verdicts
-- are defined only for registers with one writer
abbrev pub judged_from : {P : Type 0} → Behaviour P → ℕ → Option ℕ
judged_from b value = if b.suits 1 (op.Write 0) then None else Some value

-- the page that a look at one branch of a forest shows, if the register's initial value is `value`;
-- `None` if the query is for the list of branches, or for a session's cursor
abbrev pub page_of : {P : Type 0} → Behaviour P → ℕ → Forest → Query → Option Page
page_of b value f (State branch place) = Some (config_at b value kind.State branch place (steps_in f branch))
page_of b value f (Process branch place process) = Some (config_at b value (kind.Process process) branch place (steps_in f branch))
page_of b value f (Bits branch place) = Some (config_at b value kind.Bits branch place (steps_in f branch))
page_of b value f (Pending branch place) = Some (config_at b value kind.Pending branch place (steps_in f branch))
page_of b value f (History branch place) = Some (events_at b value which.History branch place (steps_in f branch))
page_of b value f (Verdict branch place) = Some (events_at b value (which.Verdict (judged_from b value)) branch place (steps_in f branch))
page_of b value f (Steps branch) = Some (page.Steps (record { branch = branch; steps = steps_in f branch }))
page_of b value f Branches = None
page_of b value f (Cursor who) = None

-- if each step of each branch fits the register, then from any initial value, no look at a branch
-- shows a stray read: one that gives neither the fresh value nor that of an overlapping write
abbrev pub NeverShowsStray : {P : Type 0} → Behaviour P → Type 0
NeverShowsStray b = (value : ℕ) (f : Forest) (query : Query) → value < b.values → StepsFit b f → IfSome (page_of b value f query) ShowsNoStray

-- whether a query looks at one branch, and not at the list of branches or a session's cursor
abbrev pub is_at_branch : Query → Bool
is_at_branch Branches = false
is_at_branch (Cursor who) = false
is_at_branch query = true

-- the two charts have the same branches, limits, initial configuration and initial value; only
-- their stored runs may differ
pub record IsChartKept {R P : Type 0} (old new : Charted R P) : Type 0 where
  pub branches : forest new.trie ≡ forest old.trie
  pub limits : new.trie.limits ≡ old.trie.limits
  pub start : new.start ≡ old.start
  pub value : new.value ≡ old.value
