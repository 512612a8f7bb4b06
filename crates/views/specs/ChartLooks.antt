-- What is shown by looks at the branches of a chart. `is` gives the behaviour of a register.
use Rattle.std.specs.Prelude.{◌≡◌, ℕ, List, Option, Some, Result, Ok, IfOk, OnOk, IfErr}
use Rattle.frames.specs.Behaviour.{Behaviour}
use Rattle.schedule_trie.specs.declared.refusal.Refusal.{Refusal}
use Rattle.schedule_trie.specs.Forest.{Forest, IsRefused}
use Rattle.schedule_trie.specs.Trie.{forest}
use Rattle.cutoff.specs.Charts.{Charted, look}
use Rattle.pages.specs.declared.query.ConfigKind.{ConfigKind}
use Rattle.pages.specs.declared.query.EventsKind.{EventsKind}
use Rattle.pages.specs.declared.query.Query.{Query}
use Rattle.pages.specs.declared.page.Page.{Page}
use Rattle.pages.specs.declared.page.Page.TheVariants.{Steps}
use Rattle.pages.specs.Strays.{Judges}
use Rattle.views.specs.Looks.{steps_in, config_at, events_at, page_of}
use Rattle.views.specs.Slips.{Slipped}

-- the page that a look at one branch of a chart shows; `None` if the query is for the list of
-- branches, or for a session's cursor
abbrev pub shown_by : {R P : Type 0} → (R → Behaviour P) → Charted R P → Query → Option Page
shown_by is chart query = page_of (is chart.start.register) chart.value (forest chart.trie) query

-- the page of the kind `what` that shows the configuration after the first `place` steps of a
-- chart's branch
abbrev pub config_page_in : {R P : Type 0} → (R → Behaviour P) → Charted R P → ConfigKind → List ℕ → ℕ → Page
config_page_in is chart what branch place = config_at (is chart.start.register) chart.value what branch place (steps_in (forest chart.trie) branch)

-- the page of the kind `what` that shows the events of the first `place` steps of a chart's branch
abbrev pub events_page_in : {R P : Type 0} → (R → Behaviour P) → Charted R P → EventsKind → List ℕ → ℕ → Page
events_page_in is chart what branch place = events_at (is chart.start.register) chart.value what branch place (steps_in (forest chart.trie) branch)

-- the page that shows all steps of a branch of a forest
abbrev pub steps_page : Forest → List ℕ → Page
steps_page f branch = Steps (record { branch = branch; steps = steps_in f branch })

-- The result is that of a look at a chart's branch after its first `place` steps: a slip, or an
-- error by which the look is refused. The slip remembers the chart's register, and any verdicts on
-- its page are on a history of that register.
pub record IsLookAt {R P : Type 0} (is : R → Behaviour P) (chart : Charted R P) (branch : List ℕ) (place : ℕ) (result : Result (Slipped R) Refusal) : Type 0 where
  pub found : OnOk result (look (forest chart.trie) branch place ≡ Ok (forest chart.trie))
  pub err : IfErr result (IsRefused (look (forest chart.trie) branch place))
  pub judged : IfOk result (λ slip. slip.judged ≡ Some chart.start.register)
  pub judges : IfOk result (λ slip. Judges (is chart.start.register) slip.page)
