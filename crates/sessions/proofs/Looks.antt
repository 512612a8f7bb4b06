-- Looks at one branch, and at a session.
use Rattle.std.proofs.Common.{◌≡◌, ◌∙◌, ◌<◌, ◌||◌, ℕ, true, false, nat_lt, List, length, Option, None, is_none, get_or, refl, ap, arith}
use Rattle.std.proofs.lemmas.Bool.Decides.{nat_tests}
use Rattle.std.proofs.lemmas.List.{get_or_default}
use Rattle.pages.specs.declared.query.Query.{Query}
use Rattle.pages.specs.declared.query.Query.TheVariants.{Branches, Cursor}
use Rattle.views.specs.Looks as views
use Rattle.views.specs.Looks.{is_at_branch}
use Rattle.sessions.specs.World.{World}
use Rattle.sessions.specs.declared.cursor.Cursor as declared
use Rattle.sessions.specs.Cursors.{cursor_at}
use Rattle.sessions.specs.Looks.{lacks_cursor, shown_in, looked_in}

both_at_branch : {P : Type 0} (w : World P) (query : Query) → is_at_branch query ≡ true
    → (views.page_of w.tower w.value w.forest query ≡ shown_in w query) × (views.looked query w.forest ≡ looked_in w query)
both_at_branch w Branches h = absurd (cc)
both_at_branch w (Cursor who) h = absurd (cc)
both_at_branch w query h = (refl, refl)

pub shown_at_branch : {P : Type 0} (w : World P) (query : Query) → is_at_branch query ≡ true → views.page_of w.tower w.value w.forest query ≡ shown_in w query
shown_at_branch w query h = (both_at_branch w query h).0

pub looked_at_branch : {P : Type 0} (w : World P) (query : Query) → is_at_branch query ≡ true → views.looked query w.forest ≡ looked_in w query
looked_at_branch w query h = (both_at_branch w query h).1

-- a query that is neither for all branches nor for a cursor is at a branch
pub others_at_branch : (query : Query) → (query ≡ Branches → ⊥) → ((who : ℕ) → query ≡ Cursor who → ⊥) → is_at_branch query ≡ true
others_at_branch Branches branches cursor = absurd (branches refl)
others_at_branch (Cursor who) branches cursor = absurd (cursor who refl)
others_at_branch query branches cursor = refl

not_over_15 : (who : ℕ) → who < 16 → nat_lt 15 who ≡ false
not_over_15 who h = grind (arith, nat_tests)

-- session `who` has this cursor, or none
module _ (cursors : List (Option declared.Cursor)) (who : ℕ) (default cursor : Option declared.Cursor)
    (sixteen : length cursors ≡ 16) (within : who < 16) (here : get_or cursors who default ≡ cursor) where
  pub cursor_at_is : cursor_at cursors who ≡ cursor
  cursor_at_is = get_or_default cursors who None default (omega (arith, within, sixteen)) ∙ here

  pub lacks_cursor_is : lacks_cursor who cursors ≡ is_none cursor
  lacks_cursor_is = ap (λ b. b || is_none (cursor_at cursors who)) (not_over_15 who within) ∙ ap is_none cursor_at_is
