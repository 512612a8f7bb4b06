-- The views of a turn's chairs, each of which is what the chair knows of the value's list, and how
-- calls change them. `by` gives the number of the chair that made an entry.
use Rattle.std.specs.Prelude.{◌≡◌, ℕ, ◌≤◌, Bool, true, false, not, nat_lt, max, ◌==◌, if◌then◌else◌, List, [], ◌++◌, length, filter}
use Rattle.turn.specs.declared.view.View.{View}
use Rattle.turn.specs.Entries.{AtMostOne}
use Rattle.turn.specs.Shares.{has_share, HasAll, chair_number, every_share, no_share, shares_without, together}

-- `list` begins with `front`
abbrev pub StartsWith : {E : Type 0} → List E → List E → Type 0
StartsWith {E} list front = (rest : List E) × (front ++ rest ≡ list)

module _ {E : Type 0} where
  -- the view of a turn's first chair: it holds every share, has made no call, and has seen the
  -- whole list so far
  abbrev pub first_view : List E → View E
  first_view list = record { shares = every_share; calls = []; seen = list; reported = 0; holds = false; met = ([], []) }

  -- the view of a chair that another chair has taken over: it holds no share and has seen nothing
  abbrev pub spent_view : View E
  spent_view = record { shares = no_share; calls = []; seen = []; reported = 0; holds = false; met = ([], []) }

  -- the view v after its chair takes the turn and finds the list `list`, all of which it has then
  -- seen
  abbrev pub grabbed : View E → List E → View E
  grabbed v list = record v { seen = list; holds = true }

  -- the view v after its chair adds the entries `added` to the list, as its own calls
  abbrev pub published : View E → List E → View E
  published v added = record v { seen = v.seen ++ added; calls = v.calls ++ added }

  -- the view v after its chair gives the turn back
  abbrev pub released : View E → View E
  released v = record v { holds = false }

  -- the view v after its chair reads that the list has the length n
  abbrev pub with_news : View E → ℕ → View E
  with_news v n = record v { reported = n }

  -- the chair with the view v holds at least one share
  abbrev pub HoldsSome : View E → Type 0
  HoldsSome v = (share : ℕ) × (has_share v.shares share ≡ true)

  -- the longer of two lists; the first of them if they are equally long
  abbrev pub longer : List E → List E → List E
  longer xs ys = if nat_lt (length xs) (length ys) then ys else xs

  -- the view v after its chair takes over the chair with the view w: it has the shares and calls of
  -- both, and has seen the longer of the two lists that they had seen
  abbrev pub joined : View E → View E → View E
  joined v w = record {
    shares = together v.shares w.shares;
    calls = v.calls ++ w.calls;
    seen = longer v.seen w.seen;
    reported = max v.reported w.reported;
    holds = v.holds;
    met = (v.seen, w.seen);
  }

  -- A chair with the view v takes over one with the view w, reads the list's length, and then has
  -- the view `after`, with the shares and calls of both. Of the two lists seen, the longer begins
  -- with the shorter, and `after` has seen the longer. The length read is at least that of this
  -- list, and at least any length that either chair had read.
  abbrev pub IsJoined : View E → View E → View E → Type 0
  IsJoined v w after = (n : ℕ) × (after ≡ with_news (joined v w) n) × ((joined v w).reported ≤ n) × (length after.seen ≤ n) × StartsWith after.seen v.seen × StartsWith after.seen w.seen

module _ {E : Type 0} (by : E → ℕ) where
  -- the entries of a list that were made under this share: those for which `by` gives its number
  abbrev pub under : ℕ → List E → List E
  under share list = filter (λ e. by e == share) list

  -- for each share that a chair holds, the entries that it has seen and that were made under this
  -- share are just its own calls under this share
  abbrev pub OwnsItsCalls : View E → Type 0
  OwnsItsCalls v = (share : ℕ) → has_share v.shares share ≡ true → under share v.seen ≡ under share v.calls

  -- the view v after its chair gives the given shares away, with the calls made under them
  abbrev pub kept : List Bool → View E → View E
  kept given v = record v { shares = shares_without v.shares given; calls = filter (λ e. not (has_share given (by e))) v.calls }

  -- the view of a new chair that is split off a chair with the view v: it holds the given shares,
  -- has the calls made under them, and has seen what v has seen
  abbrev pub handed : List Bool → View E → View E
  handed given v = record v { shares = given; calls = filter (λ e. has_share given (by e)) v.calls }

  -- A chair takes the turn, works on the value, and gives the turn back, which changes its view
  -- from v to w. The list `before` that it finds begins with all that v had seen, is at least as
  -- long as any length that v had read, and is exactly what v had seen if v has every share. The
  -- work adds at most one entry, under the chair's number, and its relation holds between the list
  -- before and the list after. In w the chair has seen the list after, and the entry is its own
  -- call.
  abbrev pub Holding : (List E → List E → Type 0) → View E → View E → Type 0
  Holding relation v w = (before : List E) × (added : List E) × StartsWith before v.seen × (v.reported ≤ length before) × AtMostOne by (chair_number v.shares) added
      × (w ≡ released (published (grabbed v before) added)) × relation before (before ++ added) × (HasAll v.shares → before ≡ v.seen)
