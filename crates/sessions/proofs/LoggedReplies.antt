-- If the log isn't full, the reply that `command_result` gives to a command is one that is logged.
use Rattle.std.proofs.Common.{◌≡◌, ℕ, ◌+◌, Bool, true, false, not, cond, nat_le, nat_lt, nat_eq, List, [], ◌∷◌, Option, Some, None, Result, Ok, Err, length, map, refl, sym, ap, subst, ◌∙◌}
use Rattle.std.specs.List.{list_any}
use Rattle.std.specs.Cmp.Lexicographic.{pointwise}
use Rattle.schedule_trie.specs.declared.limits.Limits.{Limits}
use Rattle.schedule_trie.specs.declared.refusal.Refusal.{Refusal}
use Rattle.schedule_trie.specs.declared.refusal.Refusal.TheVariants.{NameTaken, BadName, NoPlace, Full, LastBranch, TooManyBranches, BadStep, Occupied, NoBreak, NoSession, Newer, LogFull, Memory}
use Rattle.schedule_trie.specs.Names.{is_well_formed}
use Rattle.schedule_trie.specs.Forest as forests
use Rattle.schedule_trie.specs.Forest.{Forest, on_found, index_of, slots_in, name_of}
use Rattle.schedule_trie.specs.Edits.{Edit, Insert, Remove, Replace, Fork, Detach, Drop, edited}
use Rattle.cutoff.specs.Charts.{looked_at}
use Rattle.sessions.specs.declared.command.Command.{Command}
use Rattle.sessions.specs.declared.command.Command.TheVariants as command
use Rattle.sessions.specs.declared.cursor.Cursor.{Cursor}
use Rattle.sessions.specs.declared.reply.Reply.{Reply}
use Rattle.sessions.specs.declared.reply.Reply.TheVariants.{No}
use Rattle.sessions.specs.declared.way.Way.TheVariants as way
use Rattle.sessions.specs.World.{World}
use Rattle.sessions.specs.Acts.{command_result, answered, refusals, first_refusal, refusal_if, refusal_in, refused_world, reply_to, hit_reply, hit_of, is_full, lacks_session, is_missed, fits_command, lacks_break, go_result, late_refusals_by, accepted_world_by}
use Rattle.sessions.specs.Edits.{edit_of, drops_occupied}
use Rattle.sessions.specs.Logs.{is_logged}

-- a refusal, if there is one, is logged
abbrev IsLoggedRefusal : Option Refusal → Type 0
IsLoggedRefusal None = Unit {0}
IsLoggedRefusal (Some r) = is_logged (No r) ≡ true

refusal_if_logged : (t : Bool) (r : Refusal) → is_logged (No r) ≡ true → IsLoggedRefusal (refusal_if t r)
refusal_if_logged true r h = h
refusal_if_logged false r h = tt

first_logged : (o : Option Refusal) (rs : List (Option Refusal)) → IsLoggedRefusal o → IsLoggedRefusal (first_refusal rs) → IsLoggedRefusal (first_refusal (o ∷ rs))
first_logged None rs a b = b
first_logged (Some r) rs a b = a

-- if the refusals in two results are logged, so is the refusal in the result that a test chooses
by_test : (t : Bool) (x y : Result Forest Refusal) → IsLoggedRefusal (refusal_in x) → IsLoggedRefusal (refusal_in y) → IsLoggedRefusal (refusal_in (cond t x y))
by_test true x y a b = a
by_test false x y a b = b

found_logged : (o : Option ℕ) (work : ℕ → Result Forest Refusal) → ((i : ℕ) → IsLoggedRefusal (refusal_in (work i))) → IsLoggedRefusal (refusal_in (on_found o work))
found_logged None work h = refl
found_logged (Some i) work h = h i

edited_logged : (limits : Limits) (f : Forest) (edit : Edit) → IsLoggedRefusal (refusal_in (edited limits f edit))
edited_logged limits f (Insert name place step) =
    found_logged (index_of f.branches name) (forests.insert_at limits f place step)
    (λ i. by_test (nat_lt (length (slots_in f.branches i)) place) (Err NoPlace) _ refl (by_test (nat_le limits.cells f.made) (Err Full) (Ok (forests.inserted f i place step)) refl tt))
edited_logged limits f (Remove name place) =
    found_logged (index_of f.branches name) (forests.at_cell f place forests.without) (λ i. by_test (nat_le (length (slots_in f.branches i)) place) (Err NoPlace) (Ok _) refl tt)
edited_logged limits f (Replace name place step) =
    found_logged (index_of f.branches name) (forests.at_cell f place (forests.replaced_by step)) (λ i. by_test (nat_le (length (slots_in f.branches i)) place) (Err NoPlace) (Ok _) refl tt)
edited_logged limits f (Fork name place new) =
    found_logged (index_of f.branches name) (forests.fork_at limits f place new)
    (λ i. by_test (list_any (pointwise nat_eq new) (map name_of f.branches)) (Err NameTaken) _ refl
    (by_test (not (is_well_formed new)) (Err BadName) _ refl
    (by_test (nat_lt (length (slots_in f.branches i)) place) (Err NoPlace) _ refl
    (by_test (nat_le limits.branches (length f.branches)) (Err TooManyBranches) (Ok _) refl tt))))
edited_logged limits f (Detach name) =
    found_logged (index_of f.branches name) (forests.detach_at limits f) (λ i. by_test (nat_lt limits.cells (f.made + length (slots_in f.branches i))) (Err Full) (Ok _) refl tt)
edited_logged limits f (Drop name) =
    found_logged (index_of f.branches name) (forests.drop_at f) (λ i. by_test (nat_le (length f.branches) 1) (Err LastBranch) (Ok _) refl tt)

go_logged : (f : Forest) (c : Command) → IsLoggedRefusal (refusal_in (go_result f c))
go_logged f (command.Go name place) =
    found_logged (index_of f.branches name) (looked_at f place) (λ i. by_test (nat_lt (length (slots_in f.branches i)) place) (Err NoPlace) (Ok f) refl tt)
go_logged f c = tt

late_logged : {P : Type 0} (edit : Option Edit) (who : ℕ) (c : Command) (w : World P) → IsLoggedRefusal (first_refusal (late_refusals_by edit who c w))
late_logged (Some edit) who c w =
    first_logged (refusal_in (edited w.limits w.forest edit)) _ (edited_logged w.limits w.forest edit)
    (first_logged (refusal_if (drops_occupied edit w.cursors) Occupied) [] (refusal_if_logged (drops_occupied edit w.cursors) Occupied refl) tt)
late_logged None who c w =
    first_logged (refusal_in (go_result w.forest c)) _ (go_logged w.forest c)
    (first_logged (refusal_if (lacks_break who c w.breaks) NoBreak) [] (refusal_if_logged (lacks_break who c w.breaks) NoBreak refl) tt)

hit_logged : (o : Option Cursor) → is_logged (hit_reply o) ≡ true
hit_logged None = refl
hit_logged (Some c) = refl

module _ {P : Type 0} (who : ℕ) (w : World P) where
  reply_logged : (c : Command) → is_logged (reply_to who c w) ≡ true
  reply_logged command.Join = refl
  reply_logged command.Leave = refl
  reply_logged (command.Insert name place step) = refl
  reply_logged (command.Remove name place) = refl
  reply_logged (command.Replace name place step) = refl
  reply_logged (command.Fork name place new) = refl
  reply_logged (command.Detach name) = refl
  reply_logged (command.Drop name) = refl
  reply_logged (command.Go name place) = refl
  reply_logged command.Seek = hit_logged (hit_of way.Forth w who)
  reply_logged command.Back = hit_logged (hit_of way.Back w who)
  reply_logged (command.Break break) = refl
  reply_logged (command.Clear break) = refl

  refused_limits : (r : Refusal) → (refused_world r w).limits ≡ w.limits
  refused_limits LogFull = refl
  refused_limits r = refl

  refused_counted : (r : Refusal) → is_logged (No r) ≡ true → (refused_world r w).logged ≡ w.logged + 1
  refused_counted LogFull h = cc
  refused_counted r h = refl

  accepted_counted : (edit : Option Edit) (c : Command) → (accepted_world_by edit who c w).logged ≡ w.logged + 1
  accepted_counted (Some edit) c = refl
  accepted_counted None c = refl

  accepted_limits : (edit : Option Edit) (c : Command) → (accepted_world_by edit who c w).limits ≡ w.limits
  accepted_limits (Some edit) c = refl
  accepted_limits None c = refl

  -- if the first refusal of a command, if any, is logged, then the reply is logged, the command is
  -- counted, and the limits stay
  answered_logged : (c : Command) (o : Option Refusal) → IsLoggedRefusal o
      → (is_logged (answered o who c w).reply ≡ true) × ((answered o who c w).world.logged ≡ w.logged + 1) × ((answered o who c w).world.limits ≡ w.limits)
  answered_logged c None h = (reply_logged c, accepted_counted (edit_of c) c, accepted_limits (edit_of c) c)
  answered_logged c (Some r) h = (h, refused_counted r h, refused_limits r)

  pub acted_logged : (guard : Option ℕ) (c : Command) → is_full w ≡ false
      → (is_logged (command_result who guard c w).reply ≡ true) × ((command_result who guard c w).world.logged ≡ w.logged + 1) × ((command_result who guard c w).world.limits ≡ w.limits)
  acted_logged guard c room =
      answered_logged c (first_refusal (refusals who guard c w))
      (first_logged (refusal_if (is_full w) LogFull) _ (subst (λ t. IsLoggedRefusal (refusal_if t LogFull)) (sym room) tt)
      (first_logged (refusal_if (lacks_session who c w.cursors) NoSession) _ (refusal_if_logged (lacks_session who c w.cursors) NoSession refl)
      (first_logged (refusal_if (is_missed guard w.edits) (Newer w.edits)) _ (refusal_if_logged (is_missed guard w.edits) (Newer w.edits) refl)
      (first_logged (refusal_if (not (fits_command w.tower c)) BadStep) _ (refusal_if_logged (not (fits_command w.tower c)) BadStep refl)
      (late_logged (edit_of c) who c w)))))

  -- if the log isn't full, `command_result` never gives the reply Memory
  pub never_memory : (guard : Option ℕ) (c : Command) (after : World P) (reply : Reply) → is_full w ≡ false
      → command_result who guard c w ≡ record { world = after; reply = reply } → reply ≡ No Memory → ⊥
  never_memory guard c after reply room acts memory =
      let logged : is_logged (No Memory) ≡ true = ap is_logged (sym (ap (λ a. a.reply) acts ∙ memory)) ∙ (acted_logged guard c room).0 in
      cc

  pub acted_full : (guard : Option ℕ) (c : Command) → is_full w ≡ true → command_result who guard c w ≡ record { world = w; reply = No LogFull }
  acted_full guard c full = rw full refl
