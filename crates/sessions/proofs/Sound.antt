-- Each command that finds a lawful world, one that is as `IsLawfulWorld` says, leaves a lawful one.
use Rattle.std.proofs.Common.{◌≡◌, ℕ, ◌+◌, ◌<◌, ◌≤◌, Bool, true, false, cond, nat_lt, List, [], ◌∷◌, ◌++◌, length, Option, Some, None, Result, Ok, Err, refl, ◌∙◌, arith}
use Rattle.std.specs.Prelude.{IfSome, option_and_then, slice_set}
use Rattle.std.specs.Option.{option_map}
use Rattle.std.proofs.lemmas.List.{length-map, length-set}
use Rattle.schedule_trie.specs.declared.refusal.Refusal.{Refusal}
use Rattle.schedule_trie.specs.declared.refusal.Refusal.TheVariants.{LogFull, NoPlace, Occupied}
use Rattle.schedule_trie.specs.Forest as forests
use Rattle.schedule_trie.specs.Forest.{Forest, IsForest, AreNamedApart, slots_in, index_of}
use Rattle.schedule_trie.specs.Edits.{Edit, Insert, Remove, Replace, Fork, Detach, Drop, edited}
use Rattle.cutoff.specs.Charts.{looked_at}
use Rattle.views.specs.Looks.{steps_in}
use Rattle.sessions.specs.declared.command.Command.{Command}
use Rattle.sessions.specs.declared.command.Command.TheVariants as command
use Rattle.sessions.specs.declared.cursor.Cursor.{Cursor}
use Rattle.sessions.specs.declared.cursor.Shift.TheVariants as shift
use Rattle.sessions.specs.declared.way.Way.{Way}
use Rattle.sessions.specs.declared.way.Way.TheVariants as way
use Rattle.sessions.specs.World.{World}
use Rattle.sessions.specs.BreakLists.{breaks_at}
use Rattle.sessions.specs.Cursors.{shifted, cursor, cursor_at, first_cursor, AreAtPlaces, IsAtPlace}
use Rattle.sessions.specs.Edits.{edit_of, moved_by, drops_occupied}
use Rattle.sessions.specs.Seeks.{hits, is_hit, next_place}
use Rattle.sessions.specs.Acts.{answered, breaks_after, command_result, cursors_after, first_refusal, hit_from, hit_of, is_full, forest_or, late_refusals_by, accepted_world_by, other_refusals, put_cursor, refusals, early_refusals, late_refusals, refusal_in, refused_world, refusal_if}
use Rattle.sessions.specs.Books.{IsLawfulWorld}
use Rattle.sessions.proofs.CommandAnswers.{session_exists_and_step_fits}
use Rattle.sessions.proofs.NextHits.{next_is_hit}
use Rattle.sessions.proofs.CellsMade.{made_within}
use Rattle.sessions.proofs.CursorPlaces.{edited_placed, first_placed, hit_exists, put_placed}

neither_refuses : (xs ys : List (Option Refusal)) → first_refusal (xs ++ ys) ≡ None → (first_refusal xs ≡ None) × (first_refusal ys ≡ None)
neither_refuses [] ys e = (refl, e)
neither_refuses (None ∷ xs) ys e = neither_refuses xs ys e
neither_refuses (Some r ∷ xs) ys e = absurd (cc)

looked_if_not_refused : (f : Forest) (place : ℕ) (o : Option ℕ) → first_refusal (refusal_in (forests.on_found o (looked_at f place)) ∷ None ∷ []) ≡ None → forests.on_found o (looked_at f place) ≡ Ok f
looked_if_not_refused f place None h = absurd (cc)
looked_if_not_refused f place (Some i) h = by (nat_lt (length (slots_in f.branches i)) place) h
  where
    by : (b : Bool) → first_refusal (refusal_in (cond b (Err NoPlace) (Ok f)) ∷ None ∷ []) ≡ None → cond b (Err NoPlace) (Ok f) ≡ Ok f
    by true h = absurd (cc)
    by false h = refl

moved_by_length : (edit : Edit) (f : Forest) (cursors : List (Option Cursor)) → length (moved_by edit f cursors) ≡ length cursors
moved_by_length (Insert name place step) f cursors = length-map cursors (option_map (shifted shift.Up f name place))
moved_by_length (Remove name place) f cursors = length-map cursors (option_map (shifted shift.Down f name place))
moved_by_length (Replace name place step) f cursors = refl
moved_by_length (Fork name place new) f cursors = refl
moved_by_length (Detach name) f cursors = refl
moved_by_length (Drop name) f cursors = refl

module _ {P : Type 0} (who : ℕ) (w : World P) (sound : IsLawfulWorld w) (held : IsForest w.forest) where
  -- the cursors of sixteen sessions (`None` for some), each at a place that exists
  abbrev ArePlaced : List (Option Cursor) → Type 0
  ArePlaced cursors = AreAtPlaces w.forest cursors × (length cursors ≡ 16)

  cursors_placed : ArePlaced w.cursors
  cursors_placed = (sound.all_placed, sound.cursors)

  hit_placed : (towards : Way) → IfSome (hit_of towards w who) (IsAtPlace w.forest)
  hit_placed towards = by (cursor_at w.cursors who) (sound.all_placed who)
    where
      at : (c : Cursor) → IsAtPlace w.forest c → (o : Option ℕ) → o ≡ next_place towards c.place (hits w.tower w.value (steps_in w.forest c.branch) (breaks_at w.breaks who))
          → IfSome (option_map (cursor c.branch) o) (IsAtPlace w.forest)
      at c h None e = tt
      at c h (Some k) e =
          let steps = steps_in w.forest c.branch in
          let hit = next_is_hit (is_hit w.tower w.value steps (breaks_at w.breaks who)) c.place towards (length steps + 1) (Some k) e in
          hit_exists w.forest c k h hit.within

      by : (o : Option Cursor) → IfSome o (IsAtPlace w.forest) → IfSome (option_and_then (hit_from towards w (breaks_at w.breaks who)) o) (IsAtPlace w.forest)
      by None h = tt
      by (Some c) h = at c h _ refl

  edit_placed : (edit : Edit) (r : Result Forest Refusal) → edited w.limits w.forest edit ≡ r → (b : Bool) → drops_occupied edit w.cursors ≡ b → AreNamedApart (forest_or r w.forest).branches
      → first_refusal (refusal_in r ∷ refusal_if b Occupied ∷ []) ≡ None
      → AreAtPlaces (forest_or r w.forest) (moved_by edit w.forest w.cursors) × ((forest_or r w.forest).made ≤ w.limits.cells)
  edit_placed edit (Err r) e b d apart h = absurd (cc)
  edit_placed edit (Ok g) e true d apart h = absurd (cc)
  edit_placed edit (Ok g) e false d apart h =
      (edited_placed w.limits w.forest g held apart w.cursors sound.all_placed edit e d, made_within w.limits w.forest sound.few_cells g edit e)

  breaks_after_length : (c : Command) → length (breaks_after who c w.breaks) ≡ length w.breaks
  breaks_after_length command.Join = length-set w.breaks who _
  breaks_after_length command.Leave = length-set w.breaks who _
  breaks_after_length (command.Break break) = length-set w.breaks who _
  breaks_after_length (command.Clear break) = length-set w.breaks who _
  breaks_after_length c = refl

  module _ (within : who < 16) where
    session_placed : (o : Option Cursor) → IfSome o (IsAtPlace w.forest) → ArePlaced (slice_set w.cursors who o)
    session_placed o one = (put_placed w.forest w.cursors who o (omega (arith, within, sound.cursors)) one sound.all_placed, length-set w.cursors who o ∙ sound.cursors)

    put_cursor_placed : (o : Option Cursor) → IfSome o (IsAtPlace w.forest) → ArePlaced (put_cursor who o w.cursors)
    put_cursor_placed None one = cursors_placed
    put_cursor_placed (Some c) one = session_placed (Some c) one

    cursors_after_placed : (c : Command) → first_refusal (other_refusals who c w) ≡ None → ArePlaced (cursors_after who c w)
    cursors_after_placed command.Join h = session_placed (first_cursor w.forest) (first_placed w.forest held.apart)
    cursors_after_placed command.Leave h = session_placed None tt
    cursors_after_placed (command.Go branch place) h = session_placed (Some (cursor branch place)) (looked_if_not_refused w.forest place (index_of w.forest.branches branch) h)
    cursors_after_placed command.Seek h = put_cursor_placed (hit_of way.Forth w who) (hit_placed way.Forth)
    cursors_after_placed command.Back h = put_cursor_placed (hit_of way.Back w who) (hit_placed way.Back)
    cursors_after_placed c h = cursors_placed

    accepted_sound : (edit : Option Edit) (c : Command) → AreNamedApart (accepted_world_by edit who c w).forest.branches → first_refusal (late_refusals_by edit who c w) ≡ None → IsLawfulWorld (accepted_world_by edit who c w)
    accepted_sound (Some edit) c apart h =
        let p = edit_placed edit (edited w.limits w.forest edit) refl (drops_occupied edit w.cursors) refl apart h in
        record {
          in_range = sound.in_range;
          few_cells = p.1;
          all_placed = p.0;
          cursors = moved_by_length edit w.forest w.cursors ∙ sound.cursors;
          breaks = sound.breaks;
          few_edits = omega (arith, sound.few_edits);
        }
    accepted_sound None c apart h =
        let p = cursors_after_placed c h in
        record {
          in_range = sound.in_range;
          few_cells = sound.few_cells;
          all_placed = p.0;
          cursors = p.1;
          breaks = breaks_after_length c ∙ sound.breaks;
          few_edits = omega (arith, sound.few_edits);
        }

  counted_sound : IsLawfulWorld (record w { logged = w.logged + 1 })
  counted_sound = record {
    in_range = sound.in_range;
    few_cells = sound.few_cells;
    all_placed = sound.all_placed;
    cursors = sound.cursors;
    breaks = sound.breaks;
    few_edits = omega (arith, sound.few_edits);
  }

  refused_sound : (r : Refusal) → IsLawfulWorld (refused_world r w)
  refused_sound LogFull = sound
  refused_sound r = counted_sound

  pub command_sound : (guard : Option ℕ) (c : Command) → AreNamedApart (command_result who guard c w).world.forest.branches → IsLawfulWorld (command_result who guard c w).world
  command_sound guard c = by (first_refusal (refusals who guard c w)) refl
    where
      by : (o : Option Refusal) → first_refusal (refusals who guard c w) ≡ o → AreNamedApart (answered o who c w).world.forest.branches → IsLawfulWorld (answered o who c w).world
      by None e apart =
          let rest = (neither_refuses (refusal_if (is_full w) LogFull ∷ []) (early_refusals who guard c w ++ late_refusals who c w) e).1 in
          let none = neither_refuses (early_refusals who guard c w) (late_refusals who c w) rest in
          accepted_sound (session_exists_and_step_fits who guard c w none.0).0 (edit_of c) c apart none.1
      by (Some r) e apart = refused_sound r
