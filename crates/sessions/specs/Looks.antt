-- Looks at a world: why a look is refused, or which page it shows.
use Rattle.std.specs.Prelude.{ℕ, Bool, ◌||◌, nat_lt, List, Option, Some, None, Result, Ok, Err, is_none, if◌then◌else◌}
use Rattle.schedule_trie.specs.declared.refusal.Refusal.{Refusal}
use Rattle.schedule_trie.specs.declared.refusal.Refusal.TheVariants.{NoSession}
use Rattle.schedule_trie.specs.Forest.{Forest}
use Rattle.pages.specs.declared.breakpoint.Break.{Break}
use Rattle.pages.specs.declared.query.Query.{Query}
use Rattle.pages.specs.declared.query.Query.TheVariants.{Branches, Cursor}
use Rattle.pages.specs.declared.page.Page.{Page}
use Rattle.pages.specs.declared.page.Page.TheVariants as page
use Rattle.pages.specs.page.Branches.{branches_page}
use Rattle.views.specs.Looks as views
use Rattle.sessions.specs.declared.cursor.Cursor as declared
use Rattle.sessions.specs.Cursors.{cursor_at}
use Rattle.sessions.specs.BreakLists.{breaks_at}
use Rattle.sessions.specs.World.{World}

-- the page of a session's cursor and breaks; `None` if the session hasn't joined
abbrev pub cursor_page : Option declared.Cursor → List Break → Option Page
cursor_page None breaks = None
cursor_page (Some c) breaks = Some (page.Cursor (record { branch = c.branch; place = c.place; breaks = breaks }))

-- whether there is no such session, or it hasn't joined
abbrev pub lacks_cursor : ℕ → List (Option declared.Cursor) → Bool
lacks_cursor who cursors = nat_lt 15 who || is_none (cursor_at cursors who)

module _ {P : Type 0} where
  -- why a look is refused: NoSession for the cursor of a session that doesn't exist or hasn't
  -- joined; NoBranch; or NoPlace. If it isn't refused, Ok with the branches, unchanged.
  abbrev pub looked_in : World P → Query → Result Forest Refusal
  looked_in w (Cursor who) = if lacks_cursor who w.cursors then Err NoSession else Ok w.forest
  looked_in w query = views.looked query w.forest

  -- the page that a look shows of the world w, if it isn't refused
  abbrev pub shown_in : World P → Query → Option Page
  shown_in w Branches = Some (page.Branches (branches_page w.edits w.forest))
  shown_in w (Cursor who) = cursor_page (cursor_at w.cursors who) (breaks_at w.breaks who)
  shown_in w query = views.page_of w.tower w.value w.forest query
