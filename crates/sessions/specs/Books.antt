-- What a book guarantees by its type. `is` gives the behaviour of a register.
use Rattle.std.specs.Prelude.{ℕ, ◌≡◌, ◌≤◌, ◌-◌, ◌⊎◌, false, List, [], Option, Some, None, Result, Ok, Err, length, vec_capacity, vec_len}
use Rattle.std.specs.Global.{Vec}
use Rattle.std.specs.declared.alloc.AllocError.{AllocError}
use Rattle.frames.specs.Behaviour.{Behaviour}
use Rattle.frames.specs.Configuration.{initial_configuration}
use Rattle.schedule_trie.specs.declared.limits.Limits.{Limits}
use Rattle.schedule_trie.specs.declared.refusal.Refusal.{Refusal}
use Rattle.schedule_trie.specs.declared.refusal.Refusal.TheVariants.{Memory}
use Rattle.schedule_trie.specs.Trie.{AreLimits, forest}
use Rattle.cutoff.specs.Charts.{Charted}
use Rattle.pages.specs.declared.breakpoint.Break.{Break}
use Rattle.sessions.specs.declared.cursor.Cursor.{Cursor}
use Rattle.sessions.specs.declared.command.Command.{Command}
use Rattle.sessions.specs.declared.command.Command.TheVariants as command
use Rattle.sessions.specs.declared.way.Way.{Way}
use Rattle.sessions.specs.declared.way.Way.TheVariants.{Forth, Back}
use Rattle.sessions.specs.declared.reply.Reply.{Reply}
use Rattle.sessions.specs.declared.reply.Reply.TheVariants.{No}
use Rattle.sessions.specs.declared.log.Entry.{Entry}
use Rattle.sessions.specs.declared.workspace.Workspace.{Workspace}
use Rattle.sessions.specs.Cursors.{AreAtPlaces}
use Rattle.sessions.specs.World.{World, opening}
use Rattle.sessions.specs.Acts.{command_result, first_refusal, refusals, late_refusals, is_full, accepted_world, reply_to, with_one_logged}
use Rattle.sessions.specs.Logs.{IsLegal, world_after, logged}

-- a stored world: a world whose branches are in a chart, with stored runs that commands don't see
pub record StoredWorld (R P : Type 0) : Type 0 where
  pub chart : Charted R P
  pub limits : Limits
  pub cursors : List (Option Cursor)
  pub breaks : List (List Break)
  pub edits : ℕ
  pub logged : ℕ

-- what commands see of a stored world: all but the stored runs
abbrev pub world_of : {R P : Type 0} → (R → Behaviour P) → StoredWorld R P → World P
world_of is s =
    record {
      tower = is s.chart.start.register;
      value = s.chart.value;
      limits = s.limits;
      forest = forest s.chart.trie;
      cursors = s.cursors;
      breaks = s.breaks;
      edits = s.edits;
      logged = s.logged;
    }

-- the stored world of a workspace, when n commands are logged
abbrev pub stored : {R P : Type 0} → Workspace R P → ℕ → StoredWorld R P
stored s n = record { chart = s.chart; limits = s.chart.trie.limits; cursors = s.cursors; breaks = s.breaks.items; edits = s.edits; logged = n }

-- what every command keeps of a world: its limits are in their ranges; the number of cells ever
-- made is within them; it has sixteen sessions, whose cursors are at places that exist; and the
-- number of edits is at most that of logged commands
pub record IsLawfulWorld {P : Type 0} (w : World P) : Type 0 where
  pub in_range : AreLimits w.limits
  pub few_cells : w.forest.made ≤ w.limits.cells
  pub all_placed : AreAtPlaces w.forest w.cursors
  pub cursors : length w.cursors ≡ 16
  pub breaks : length w.breaks ≡ 16
  pub few_edits : w.edits ≤ w.logged

-- a book: the chart that it opened with, its present stored world, its log, and the number of
-- further entries that the log has memory reserved for
pub record BookOf (R P : Type 0) : Type 0 where
  pub first : Charted R P
  pub now : StoredWorld R P
  pub log : List Entry
  pub room : ℕ

-- the world at the opening of a book, before its first command
abbrev pub opening_of : {R P : Type 0} → (R → Behaviour P) → BookOf R P → World P
opening_of is h = opening (is h.first.start.register) h.first.value h.now.limits (forest h.first.trie)

-- the configuration from which a book's branches are replayed is the initial one of the register
-- and the value that the book opened with
abbrev pub BeginsAtOpening : {R P : Type 0} → (R → Behaviour P) → BookOf R P → Type 0
BeginsAtOpening is h =
    h.now.chart.start ≡ initial_configuration (opening_of is h).tower h.now.chart.start.register (opening_of is h).value

-- the world before the first command, with these limits, and with the register, the initial value
-- and the branches of a chart
abbrev pub opening_over : {R P : Type 0} → (R → Behaviour P) → Charted R P → Limits → World P
opening_over is chart limits = opening (is chart.start.register) chart.value limits (forest chart.trie)

-- a book as it is made: it opens with the world `first`, and nothing has changed since
pub record IsNewBook {R P : Type 0} (is : R → Behaviour P) (first : World P) (h : BookOf R P) : Type 0 where
  pub world : world_of is h.now ≡ first
  pub opening : opening_of is h ≡ first
  pub log : h.log ≡ []

-- neither the world of a book nor its opening nor its log changes
pub record KeepsWorld {R P : Type 0} (is : R → Behaviour P) (old new : BookOf R P) : Type 0 where
  pub world : world_of is new.now ≡ world_of is old.now
  pub opening : opening_of is new ≡ opening_of is old
  pub log : new.log ≡ old.log

-- the invariant of a book. Its log is legal, which means that each reply is the one that its
-- command gets, and leads from the opening to the present world. This world counts as many logged
-- commands as the log has entries. The count is within its limit, which is at most 1048576.
pub record IsLegalBook {R P : Type 0} (is : R → Behaviour P) (h : BookOf R P) : Type 0 where
  pub legal : IsLegal (opening_of is h) h.log
  pub after : world_of is h.now ≡ world_after (opening_of is h) h.log
  pub count : length h.log ≡ h.now.logged
  pub few : h.now.logged ≤ h.now.limits.log
  pub most_log : h.now.limits.log ≤ 1048576

-- a book, from its fields
abbrev pub book_of : {R P : Type 0} → Charted R P → Workspace R P → Vec Entry → BookOf R P
book_of first s log = record { first = first; now = stored s (length log.items); log = log.items; room = vec_capacity log - vec_len log }

-- the invariant of a book whose log may have `log_limit` entries
pub record IsBook {R P : Type 0} (is : R → Behaviour P) (log_limit : ℕ) (h : BookOf R P) : Type 0 where
  pub held : IsLegalBook is h
  pub sound : IsLawfulWorld (world_of is h.now)
  pub same_limit : h.now.limits.log ≡ log_limit

-- a book answers the command of the entry e: the reply in e and the new world are those that
-- `command_result` gives in the old world; e is added to the log, unless the reply is LogFull or
-- Memory
pub record ActsOnBook {R P : Type 0} (is : R → Behaviour P) (old new : BookOf R P) (e : Entry) : Type 0 where
  pub acts : command_result e.who e.if_at e.command (world_of is old.now) ≡ record { world = world_of is new.now; reply = e.reply }
  pub logs : new.log ≡ logged e old.log

-- memory runs out for a command: the reply is Memory, and neither world nor log is changed
pub record LacksMemory {R P : Type 0} (is : R → Behaviour P) (old new : BookOf R P) (reply : Reply) : Type 0 where
  pub replies : reply ≡ No Memory
  pub world : world_of is new.now ≡ world_of is old.now
  pub log : new.log ≡ old.log

-- there is no reason to refuse a command
abbrev pub HasNoRefusal : {P : Type 0} → ℕ → Option ℕ → Command → World P → Type 0
HasNoRefusal who guard c w = first_refusal (refusals who guard c w) ≡ None

-- `late_refusals` gives no reason to refuse a command (`early_refusals` may give one)
abbrev pub HasNoLateRefusal : {P : Type 0} → ℕ → Command → World P → Type 0
HasNoLateRefusal who c w = first_refusal (late_refusals who c w) ≡ None

-- the reply to a command may be Memory, if h is the book before the command: the log of h isn't
-- full; and either this log has no memory reserved for one more entry, or there is no other reason
-- to refuse the command
pub record MayLackMemory {R P : Type 0} (is : R → Behaviour P) (h : BookOf R P) (who : ℕ) (guard : Option ℕ) (c : Command) : Type 0 where
  pub first : is_full (world_of is h.now) ≡ false
  pub last : (h.room ≡ 0) ⊎ HasNoRefusal who guard c (world_of is h.now)

-- if the reply to a command is Memory, then `MayLackMemory` holds of h, the book before the
-- command: the log of h isn't full; and either this log has no memory reserved for one more entry,
-- or there is no other reason to refuse the command
abbrev pub RefusesMemoryLast : {R P : Type 0} → (R → Behaviour P) → BookOf R P → ℕ → Option ℕ → Command → Reply → Type 0
RefusesMemoryLast is h who guard c reply = reply ≡ No Memory → MayLackMemory is h who guard c

-- r is why a command isn't carried out, if `early_refusals` gives no reason to refuse it: the first
-- reason that `late_refusals` gives, or Memory if `late_refusals` gives none
abbrev pub IsLateRefusal : {P : Type 0} → ℕ → Command → World P → Refusal → Type 0
IsLateRefusal who c w r = (first_refusal (late_refusals who c w) ≡ Some r) ⊎ ((r ≡ Memory) × HasNoLateRefusal who c w)

-- a command is carried out: `late_refusals` gives no reason to refuse it, and its reply and, once
-- the command is counted as logged, the new world are those that `reply_to` and `accepted_world`
-- give
pub record IsCarriedOut {R P : Type 0} (is : R → Behaviour P) (who : ℕ) (c : Command) (old new : StoredWorld R P) (reply : Reply) : Type 0 where
  pub not_refused : first_refusal (late_refusals who c (world_of is old)) ≡ None
  pub leaves : accepted_world who c (world_of is old) ≡ with_one_logged (world_of is new)
  pub replies : reply_to who c (world_of is old) ≡ reply

-- a command isn't carried out: r is the first reason that `late_refusals` gives, or Memory if it
-- gives none, and the world is unchanged
pub record IsNotCarriedOut {R P : Type 0} (is : R → Behaviour P) (who : ℕ) (c : Command) (old new : StoredWorld R P) (r : Refusal) : Type 0 where
  pub why : IsLateRefusal who c (world_of is old) r
  pub same : world_of is new ≡ world_of is old

-- the result of a command that `early_refusals` doesn't refuse: Ok with its reply if it is carried
-- out; otherwise the reason why not, with the world unchanged
abbrev pub IsResult : {R P : Type 0} → (R → Behaviour P) → ℕ → Command → StoredWorld R P → StoredWorld R P → Result Reply Refusal → Type 0
IsResult is who c old new (Ok reply) = IsCarriedOut is who c old new reply
IsResult is who c old new (Err r) = IsNotCarriedOut is who c old new r

-- the answer to a command, if the log isn't full: Ok with the reply that `command_result` gives,
-- and the world that it gives once the command is counted as logged; or an error, if memory runs
-- out and there is no reason to refuse the command, with the world unchanged
abbrev pub HasAnswer : {R P : Type 0} → (R → Behaviour P) → ℕ → Option ℕ → Command → StoredWorld R P → StoredWorld R P → Result Reply AllocError → Type 0
HasAnswer is who guard c old new (Ok reply) = command_result who guard c (world_of is old) ≡ record { world = with_one_logged (world_of is new); reply = reply }
HasAnswer is who guard c old new (Err e) = HasNoRefusal who guard c (world_of is old) × (world_of is new ≡ world_of is old)

-- the command that seeks in this direction
abbrev pub seek_command : Way → Command
seek_command Forth = command.Seek
seek_command Back = command.Back
