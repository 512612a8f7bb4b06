-- If no cursor is after an edit's place, the edit moves none.
use Rattle.std.proofs.Common.{◌≡◌, ℕ, Bool, true, false, ◌&&◌, ◌||◌, nat_lt, List, [], ◌∷◌, Option, Some, None, if◌then◌else◌, refl, sym, ap, ◌∙◌}
use Rattle.std.specs.Option.{option_map}
use Rattle.std.specs.List.{list_any}
use Rattle.schedule_trie.specs.Forest.{Forest, cell_on_branch}
use Rattle.schedule_trie.specs.Edits.{Edit}
use Rattle.sessions.specs.declared.cursor.Cursor.{Cursor}
use Rattle.sessions.specs.declared.cursor.Shift.{Shift}
use Rattle.sessions.specs.Cursors.{acts_in, cursor, each_cursor, shifted, shifted_place, is_after_place}
use Rattle.sessions.specs.Edits.{moved_by}

else_if_second_false : {A : Type 0} (a b : Bool) (x y : A) → b ≡ false → (if a && b then x else y) ≡ y
else_if_second_false true b x y h = ap (λ t. if t then x else y) h
else_if_second_false false b x y h = refl

module _ (way : Shift) (f : Forest) (branch : List ℕ) (place : ℕ) where
  one_stays : (o : Option Cursor) → is_after_place place o ≡ false → option_map (shifted way f branch place) o ≡ o
  one_stays None h = refl
  one_stays (Some c) h =
      ap Some (else_if_second_false (acts_in (cell_on_branch f branch place) f branch c.branch) (nat_lt place c.place) (cursor c.branch (shifted_place way c.place)) c h)

  all_stay : (cursors : List (Option Cursor)) → list_any (is_after_place place) cursors ≡ false → each_cursor (shifted way f branch place) cursors ≡ cursors
  all_stay [] h = refl
  all_stay (o ∷ rest) h = by (all_stay rest) (is_after_place place o) refl h
    where
      by : (list_any (is_after_place place) rest ≡ false → each_cursor (shifted way f branch place) rest ≡ rest) → (b : Bool) → is_after_place place o ≡ b
          → (b || list_any (is_after_place place) rest) ≡ false → each_cursor (shifted way f branch place) (o ∷ rest) ≡ o ∷ rest
      by others true e g = absurd (cc)
      by others false e g = ap (λ x. x ∷ each_cursor (shifted way f branch place) rest) (one_stays o e) ∙ ap (λ xs. o ∷ xs) (others g)

pub unmoved : (edit : Edit) (branch : List ℕ) (place : ℕ) (shift : Shift) (cursors : List (Option Cursor)) → ((f : Forest) (old : List (Option Cursor)) → moved_by edit f old ≡ each_cursor (shifted shift f branch place) old)
    → false ≡ list_any (is_after_place place) cursors → (f : Forest) → cursors ≡ moved_by edit f cursors
unmoved edit branch place shift cursors is none f = sym (is f cursors ∙ all_stay shift f branch place cursors (sym none))
