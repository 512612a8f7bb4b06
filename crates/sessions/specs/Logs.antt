-- Logs. In a legal log, the reply of each entry is the one that the entry's command gets in the
-- world after the entries before it.
use Rattle.std.specs.Prelude.{ℕ, ◌≡◌, Bool, true, false, List, [], ◌∷◌, ◌++◌, Option, if◌then◌else◌}
use Rattle.schedule_trie.specs.declared.refusal.Refusal.TheVariants.{LogFull, Memory}
use Rattle.sessions.specs.declared.command.Command.{Command}
use Rattle.sessions.specs.declared.log.Entry.{Entry}
use Rattle.sessions.specs.declared.reply.Reply.{Reply}
use Rattle.sessions.specs.declared.reply.Reply.TheVariants.{No}
use Rattle.sessions.specs.World.{World}
use Rattle.sessions.specs.Acts.{CommandResult, command_result}

-- the entry of a call: its chair, its session, its guard, its command and its reply
abbrev pub entry : ℕ → ℕ → Option ℕ → Command → Reply → Entry
entry chair who guard c reply = record { chair = chair; who = who; if_at = guard; command = c; reply = reply }

-- whether a reply is logged: every reply is, except LogFull and Memory
abbrev pub is_logged : Reply → Bool
is_logged (No LogFull) = false
is_logged (No Memory) = false
is_logged reply = true

-- the log with the entry e added at its end, unless the reply in e is LogFull or Memory
abbrev pub logged : Entry → List Entry → List Entry
logged e log = if is_logged e.reply then log ++ e ∷ [] else log

module _ {P : Type 0} where
  -- the world and the reply after the command of the entry e in the world w
  abbrev pub acted_by : Entry → World P → CommandResult P
  acted_by e w = command_result e.who e.if_at e.command w

  -- the world that the commands of these entries lead to from the world w
  abbrev pub world_after : World P → List Entry → World P
  world_after w [] = w
  world_after w (e ∷ log) = world_after (acted_by e w).world log

  -- a log is legal: each entry's reply is the one that its command gets in the world after the
  -- entries before it, and is neither LogFull nor Memory
  abbrev pub IsLegal : World P → List Entry → Type 0
  IsLegal w [] = Unit {0}
  IsLegal w (e ∷ log) = ((acted_by e w).reply ≡ e.reply) × (is_logged e.reply ≡ true) × IsLegal (acted_by e w).world log
