-- What a command does: the reason why it is refused, or else its reply and the world after it.
-- Early reasons are tested before the command's branch is looked up. Late reasons, such as that the
-- command's branch doesn't exist, are tested after the early ones.
use Rattle.std.specs.Prelude.{ℕ, ◌+◌, Bool, true, false, not, ◌==◌, ◌&&◌, ◌||◌, nat_le, nat_lt, List, [], ◌∷◌, ◌++◌, Option, Some, None, Result, Ok, Err, is_none, slice_set, option_and_then, if◌then◌else◌}
use Rattle.std.specs.Option.{option_map}
use Rattle.frames.specs.Behaviour.{Behaviour}
use Rattle.schedule_trie.specs.declared.refusal.Refusal.{Refusal}
use Rattle.schedule_trie.specs.declared.refusal.Refusal.TheVariants.{LogFull, NoSession, Newer, BadStep, Occupied, NoBreak}
use Rattle.schedule_trie.specs.Forest.{Forest}
use Rattle.schedule_trie.specs.Edits.{Edit, edited, step_in}
use Rattle.cutoff.specs.Charts.{look}
use Rattle.cutoff.specs.Edits.{fits_if_any}
use Rattle.pages.specs.declared.breakpoint.Break.{Break}
use Rattle.views.specs.Looks.{steps_in}
use Rattle.sessions.specs.declared.cursor.Cursor.{Cursor}
use Rattle.sessions.specs.declared.way.Way.{Way}
use Rattle.sessions.specs.declared.way.Way.TheVariants as way
use Rattle.sessions.specs.declared.command.Command.{Command}
use Rattle.sessions.specs.declared.command.Command.TheVariants as command
use Rattle.sessions.specs.declared.reply.Reply.{Reply}
use Rattle.sessions.specs.declared.reply.Reply.TheVariants.{Joined, Left, Edited, Moved, NoHit, BreakSet, BreakCleared, No}
use Rattle.sessions.specs.Cursors.{cursor, cursor_at, first_cursor}
use Rattle.sessions.specs.Edits.{edit_of, moved_by, drops_occupied}
use Rattle.sessions.specs.BreakLists.{breaks_at, has_break, with_break, without_break}
use Rattle.sessions.specs.Seeks.{hits, next_place}
use Rattle.sessions.specs.World.{World}

-- whether a command needs its session to have joined
abbrev pub needs_session : Command → Bool
needs_session command.Leave = true
needs_session (command.Go branch place) = true
needs_session command.Seek = true
needs_session command.Back = true
needs_session (command.Break break) = true
needs_session (command.Clear break) = true
needs_session c = false

-- whether there is no session `who`, or the command needs it to have joined and it hasn't
abbrev pub lacks_session : ℕ → Command → List (Option Cursor) → Bool
lacks_session who c cursors = nat_lt 15 who || (needs_session c && is_none (cursor_at cursors who))

-- whether a guard is given and differs from the edit count
abbrev pub is_missed : Option ℕ → ℕ → Bool
is_missed None edits = false
is_missed (Some guard) edits = not (guard == edits)

-- whether a command's step, if it has one, fits the register
abbrev pub fits_command : {P : Type 0} → Behaviour P → Command → Bool
fits_command b c = fits_if_any b (option_and_then step_in (edit_of c))

-- why a `go` to a place that doesn't exist is refused; otherwise Ok with the branches, unchanged
abbrev pub go_result : Forest → Command → Result Forest Refusal
go_result f (command.Go branch place) = look f branch place
go_result f c = Ok f

-- whether a command clears a break that its session hasn't set
abbrev pub lacks_break : ℕ → Command → List (List Break) → Bool
lacks_break who (command.Clear break) breaks = not (has_break break (breaks_at breaks who))
lacks_break who c breaks = false

-- the refusal r if the condition is true, else `None`
abbrev pub refusal_if : Bool → Refusal → Option Refusal
refusal_if condition r = if condition then Some r else None

-- the refusal of a result; `None` if the result is a forest (the branches)
abbrev pub refusal_in : Result Forest Refusal → Option Refusal
refusal_in (Ok f) = None
refusal_in (Err r) = Some r

-- the first refusal in a list of refusals and `None`s; `None` if it has no refusal
abbrev pub first_refusal : List (Option Refusal) → Option Refusal
first_refusal [] = None
first_refusal (None ∷ rs) = first_refusal rs
first_refusal (Some r ∷ rs) = Some r

module _ {P : Type 0} where
  -- whether no more commands can be logged
  abbrev pub is_full : World P → Bool
  is_full w = nat_le w.limits.log w.logged

  -- the reasons to refuse a command, if the log isn't full, that are tested before its branch is
  -- looked up, in the order they are tested; `None` for each that doesn't apply
  abbrev pub early_refusals : ℕ → Option ℕ → Command → World P → List (Option Refusal)
  early_refusals who guard c w =
      refusal_if (lacks_session who c w.cursors) NoSession
      ∷ refusal_if (is_missed guard w.edits) (Newer w.edits)
      ∷ refusal_if (not (fits_command w.tower c)) BadStep
      ∷ []

  -- the reasons to refuse an edit after those of `early_refusals`, in the order they are tested:
  -- the branches or the limits don't allow it; it drops a branch with a cursor on it
  abbrev pub edit_refusals : Edit → World P → List (Option Refusal)
  edit_refusals edit w =
      refusal_in (edited w.limits w.forest edit)
      ∷ refusal_if (drops_occupied edit w.cursors) Occupied
      ∷ []

  -- the late reasons (tested after those of `early_refusals`) to refuse a command that isn't an
  -- edit, in the order they are tested: it is a `go` to a place that doesn't exist; it is a `clear`
  -- of a break that its session hasn't set; `None` for each reason that doesn't apply
  abbrev pub other_refusals : ℕ → Command → World P → List (Option Refusal)
  other_refusals who c w =
      refusal_in (go_result w.forest c)
      ∷ refusal_if (lacks_break who c w.breaks) NoBreak
      ∷ []

  -- the reasons to refuse the command c that are tested after those of `early_refusals`, in order;
  -- the first argument is c's edit, or `None` if c isn't an edit
  abbrev pub late_refusals_by : Option Edit → ℕ → Command → World P → List (Option Refusal)
  late_refusals_by (Some edit) who c w = edit_refusals edit w
  late_refusals_by None who c w = other_refusals who c w

  -- the reasons to refuse a command after those of `early_refusals`, in the order they are tested
  abbrev pub late_refusals : ℕ → Command → World P → List (Option Refusal)
  late_refusals who c w = late_refusals_by (edit_of c) who c w

  -- all reasons to refuse a command, in the order they are tested, a full log first; `None` for
  -- each that doesn't apply
  abbrev pub refusals : ℕ → Option ℕ → Command → World P → List (Option Refusal)
  refusals who guard c w = refusal_if (is_full w) LogFull ∷ (early_refusals who guard c w ++ late_refusals who c w)

  -- what a seek in this direction moves the cursor `c` to: the nearest place, other than c's, at
  -- which one of these breaks is met; `None` if there is no such place
  abbrev pub hit_from : Way → World P → List Break → Cursor → Option Cursor
  hit_from towards w breaks c = option_map (cursor c.branch) (next_place towards c.place (hits w.tower w.value (steps_in w.forest c.branch) breaks))

  -- what a seek moves the cursor of session `who` to; `None` if no break of the session is met in
  -- this direction, or if the session hasn't joined
  abbrev pub hit_of : Way → World P → ℕ → Option Cursor
  hit_of towards w who = option_and_then (hit_from towards w (breaks_at w.breaks who)) (cursor_at w.cursors who)

-- the cursors after a seek of session `who` that found this hit; if it found none (`None`), no
-- cursor moves
abbrev pub put_cursor : ℕ → Option Cursor → List (Option Cursor) → List (Option Cursor)
put_cursor who None cursors = cursors
put_cursor who (Some c) cursors = slice_set cursors who (Some c)

-- the cursors after a command of session `who` that isn't an edit and isn't refused
abbrev pub cursors_after : {P : Type 0} → ℕ → Command → World P → List (Option Cursor)
cursors_after who command.Join w = slice_set w.cursors who (first_cursor w.forest)
cursors_after who command.Leave w = slice_set w.cursors who None
cursors_after who (command.Go branch place) w = slice_set w.cursors who (Some (cursor branch place))
cursors_after who command.Seek w = put_cursor who (hit_of way.Forth w who) w.cursors
cursors_after who command.Back w = put_cursor who (hit_of way.Back w who) w.cursors
cursors_after who c w = w.cursors

-- the breaks of all sessions after a command of session `who` that isn't refused
abbrev pub breaks_after : ℕ → Command → List (List Break) → List (List Break)
breaks_after who command.Join breaks = slice_set breaks who []
breaks_after who command.Leave breaks = slice_set breaks who []
breaks_after who (command.Break break) breaks = slice_set breaks who (with_break break (breaks_at breaks who))
breaks_after who (command.Clear break) breaks = slice_set breaks who (without_break break (breaks_at breaks who))
breaks_after who c breaks = breaks

-- the reply to a seek: Moved to the hit that it found, or NoHit if it found none
abbrev pub hit_reply : Option Cursor → Reply
hit_reply None = NoHit
hit_reply (Some c) = Moved c.branch c.place

-- the reply to a command that isn't refused
abbrev pub reply_to : {P : Type 0} → ℕ → Command → World P → Reply
reply_to who command.Join w = Joined
reply_to who command.Leave w = Left
reply_to who (command.Go branch place) w = Moved branch place
reply_to who command.Seek w = hit_reply (hit_of way.Forth w who)
reply_to who command.Back w = hit_reply (hit_of way.Back w who)
reply_to who (command.Break break) w = BreakSet
reply_to who (command.Clear break) w = BreakCleared
reply_to who edit w = Edited (w.edits + 1)

-- the forest of a result, or `f` if the result is a refusal
abbrev pub forest_or : Result Forest Refusal → Forest → Forest
forest_or (Ok new) f = new
forest_or (Err r) f = f

-- the world with one more command counted as logged
abbrev pub with_one_logged : {P : Type 0} → World P → World P
with_one_logged w = record w { logged = w.logged + 1 }

-- the world after an edit that isn't refused
abbrev pub edited_world : {P : Type 0} → Edit → World P → World P
edited_world edit w =
    record w {
      forest = forest_or (edited w.limits w.forest edit) w.forest;
      cursors = moved_by edit w.forest w.cursors;
      edits = w.edits + 1;
      logged = w.logged + 1;
    }

-- the world after a command that isn't an edit and isn't refused
abbrev pub unedited_world : {P : Type 0} → ℕ → Command → World P → World P
unedited_world who c w =
    record w {
      cursors = cursors_after who c w;
      breaks = breaks_after who c w.breaks;
      logged = w.logged + 1;
    }

-- the world after the command c of session `who`, which isn't refused; the first argument is c's
-- edit, or `None` if c isn't an edit
abbrev pub accepted_world_by : {P : Type 0} → Option Edit → ℕ → Command → World P → World P
accepted_world_by (Some edit) who c w = edited_world edit w
accepted_world_by None who c w = unedited_world who c w

-- the world after a command of session `who` that isn't refused
abbrev pub accepted_world : {P : Type 0} → ℕ → Command → World P → World P
accepted_world who c w = accepted_world_by (edit_of c) who c w

-- the world after a refused command, which counts as logged unless the refusal is LogFull, and
-- changes nothing else
abbrev pub refused_world : {P : Type 0} → Refusal → World P → World P
refused_world LogFull w = w
refused_world r w = with_one_logged w

-- the world after a command, and its reply
pub record CommandResult (P : Type 0) : Type 0 where
  pub world : World P
  pub reply : Reply

-- the world and the reply after the command c of session `who`; the first argument is the first
-- reason to refuse c, or `None` if there is none
abbrev pub answered : {P : Type 0} → Option Refusal → ℕ → Command → World P → CommandResult P
answered None who c w = record { world = accepted_world who c w; reply = reply_to who c w }
answered (Some r) who c w = record { world = refused_world r w; reply = No r }

-- the world and the reply after the command c of session `who` in the world w; `guard` is `None` if
-- no guard is given
abbrev pub command_result : {P : Type 0} → ℕ → Option ℕ → Command → World P → CommandResult P
command_result who guard c w = answered (first_refusal (refusals who guard c w)) who c w
