-- The invariant of a turn's table, which is shared memory of two words and a slot, and what each
-- kind of step on the table guarantees. Word 0 is 0 while the turn is free, and the slot then has
-- the value. Word 1 is the length of the value's list. Each chair has access to the table, and a
-- view: what the chair knows.
use Rattle.std.specs.Prelude.{◌≡◌, ◌≢◌, ℕ, ◌<◌, ◌≤◌, true, false, List, [], ◌∷◌, ◌++◌, length, All, Option, Some}
use mathlib.Core.Option.{none, some}
use lib.ListN.{get_elem?}
use Rattle.atomic_table.specs.Table.{State, Me, Step}
use Rattle.atomic_table.specs.Seated.{TableId}
use Rattle.atomic_table.specs.declared.shared.Seat.{Seat}
use Rattle.turn.specs.declared.view.View.{View}
use Rattle.turn.specs.Shares.{has_share, HasAll}
use Rattle.turn.specs.Histories.{StartsWith, grabbed, published, released, with_news, HoldsSome, under, OwnsItsCalls}

module _ {E : Type 0} (by : E → ℕ) where
  -- each entry has the number of a chair, which is less than 16
  abbrev pub ByChairs : List E → Type 0
  ByChairs list = All (λ e. by e < 16) list

  -- What the view v of a chair says of the list is true: v has seen a prefix of the list. For each
  -- share that v holds, the calls of v under this share are just the list's entries under this
  -- share, and v has seen each of these; v has no calls under other shares. If v has the turn, v
  -- has seen the whole list. `flag` is word 0, `holder` is the chair that has the turn, and `owner`
  -- gives the chair that holds a share.
  pub record Knows (list : List E) (flag holder : ℕ) (owner : ℕ → ℕ) (chair : ℕ) (v : View E) : Type 0 where
    pub below : (share : ℕ) → has_share v.shares share ≡ true → share < 16
    pub seen : (rest : List E) × (v.seen ++ rest ≡ list) × (HoldsSome v → ByChairs rest)
    pub owns : (share : ℕ) → has_share v.shares share ≡ true → owner share ≡ chair
    pub calls : (share : ℕ) → has_share v.shares share ≡ true → under by share v.calls ≡ under by share list
    pub seen_under : (share : ℕ) → has_share v.shares share ≡ true → under by share v.seen ≡ under by share list
    pub others : (share : ℕ) → has_share v.shares share ≡ false → under by share v.calls ≡ []
    pub reported : v.reported ≤ length list
    pub holding : v.holds ≡ true → (flag ≡ 1) × (chair ≡ holder) × (v.seen ≡ list) × HoldsSome v
    pub met : StartsWith list v.met.0 × StartsWith list v.met.1

  -- There is one list, and word 1 is its length. While the turn is free, the slot has the value,
  -- and the list is the value's. Otherwise one chair has the turn, and the slot with it. What the
  -- view of each chair says of the list is true (`Knows`).
  pub record TurnInvariant {T : Type 0} (entries : T → List E) (s : State (Option T) (View E)) : Type 0 where
    pub list : List E
    pub flag : ℕ
    pub holder : ℕ
    pub owner : ℕ → ℕ
    pub words : s.words ≡ flag ∷ length list ∷ []
    pub home : flag ≡ 0 → (x : T) × (s.homes ≡ some (Some x) ∷ []) × (entries x ≡ list)
    pub away : flag ≢ 0 → (v : View E) × (s.homes ≡ none ∷ []) × (get_elem? s.views holder ≡ some v) × (v.holds ≡ true)
    pub each : (chair : ℕ) (v : View E) → get_elem? s.views chair ≡ some v → Knows list flag holder owner chair v

  module _ {T : Type 0} (entries : T → List E) where
    -- a step on the table
    abbrev TableStep : Type 0
    TableStep = Step (Option T)

    -- what a chair has at the table: its view, and the slot that it holds, if any, with its content
    abbrev Mine : Type 0
    Mine = Me (Option T) (View E)

    -- A chair found the turn free, and now has the turn and the value. The value's list begins with
    -- what the chair had seen, is at least as long as any length that the chair had read, and is
    -- exactly what the chair had seen if the chair has every share.
    abbrev pub Grabs : Mine → Mine → Type 0
    Grabs m m' = (x : T) × (m' ≡ (grabbed m.0 (entries x), (0, Some x) ∷ m.1)) × StartsWith (entries x) m.0.seen × (m.0.reported ≤ length (entries x))
        × OwnsItsCalls by (grabbed m.0 (entries x)) × (HasAll m.0.shares → entries x ≡ m.0.seen)

    -- what a step that tries to take the turn guarantees: if word 0 was 0, the chair now has
    -- the turn; otherwise nothing has changed
    abbrev pub grab_reports : TableStep → Mine → ℕ → Mine → Type 0
    grab_reports step m found m' = (found ≡ 0 → Grabs m m') × (found ≢ 0 → m' ≡ m)

    -- what a step that writes the list's new length guarantees: in the chair's view, the entries
    -- `added` are added to the list, as calls of its own
    abbrev pub publish_reports : List E → TableStep → Mine → ℕ → Mine → Type 0
    publish_reports added step m found m' = m' ≡ (published m.0 added, m.1)

    -- what a step that frees the turn guarantees: the chair has neither the turn nor the slot now
    abbrev pub release_reports : TableStep → Mine → ℕ → Mine → Type 0
    release_reports step m found m' = m' ≡ (released m.0, [])

    -- A chair reads the list's length, which is at least the length of what the chair has seen, and
    -- at least any length that the chair had read. `met` has two lists that were seen before a join
    -- (`View` says which). If one of them isn't longer than what the chair has seen, then what the
    -- chair has seen begins with that list.
    abbrev pub NewsReports : Mine → ℕ → Mine → Type 0
    NewsReports m found m' = (m' ≡ (with_news m.0 found, m.1)) × (m.0.reported ≤ found) × (length m.0.seen ≤ found) × OwnsItsCalls by m.0
        × (length m.0.met.0 ≤ length m.0.seen → StartsWith m.0.seen m.0.met.0) × (length m.0.met.1 ≤ length m.0.seen → StartsWith m.0.seen m.0.met.1)

    -- what a step that reads the list's length guarantees: `NewsReports`
    abbrev pub news_reports : TableStep → Mine → ℕ → Mine → Type 0
    news_reports step m found m' = NewsReports m found m'

module _ {T E : Type 0} where
  -- the table is of a turn's shape (two words and one slot), and `access` is to this table
  abbrev pub IsTurn : TableId → Seat (Option T) (View E) → Type 0
  IsTurn table access = (table.words ≡ 2) × (table.slots ≡ 1) × (access.table_id ≡ table)

  -- `access` and `access'` are of one chair to one table, at two times
  abbrev pub IsSameAccess : Seat (Option T) (View E) → Seat (Option T) (View E) → Type 0
  IsSameAccess access access' = (access'.table_id ≡ access.table_id) × (access'.id ≡ access.id)
