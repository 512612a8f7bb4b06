-- Examples: replies to commands, computed by the definitions, on a safe bit and at most two
-- branches.
use Rattle.std.proofs.Common.{◌≡◌, ℕ, List, [], ◌∷◌, Some, None, refl}
use Rattle.std.specs.Prelude.{codes}
use Rattle.frames.specs.declared.types.Step.TheVariants as step
use Rattle.frames.specs.SafeBit.{safe_behaviour}
use Rattle.frames.specs.declared.safe.SafePoint.{SafePoint}
use Rattle.schedule_trie.specs.declared.limits.Limits.{Limits}
use Rattle.schedule_trie.specs.declared.refusal.Refusal.TheVariants.{NoBranch, NameTaken, BadName, NoPlace, LastBranch, TooManyBranches, BadStep, Occupied, NoBreak, NoSession, Newer, LogFull}
use Rattle.schedule_trie.specs.Forest as forests
use Rattle.pages.specs.declared.breakpoint.Break.TheVariants as break
use Rattle.sessions.specs.declared.command.Command.{Command}
use Rattle.sessions.specs.declared.command.Command.TheVariants as command
use Rattle.sessions.specs.declared.reply.Reply.{Reply}
use Rattle.sessions.specs.declared.reply.Reply.TheVariants.{Edited, Moved, NoHit, BreakCleared, No}
use Rattle.sessions.specs.World.{World, opening}
use Rattle.sessions.specs.Acts.{command_result}

abbrev main : List ℕ
main = codes "main"

abbrev a : List ℕ
a = codes "a"

abbrev limits : Limits
limits = record { cells = 65536; branches = 2; log = 1000 }

-- the world after commands of session 0
abbrev after : List Command → World SafePoint → World SafePoint
after [] w = w
after (c ∷ cs) w = after cs (command_result 0 None c w).world

abbrev unjoined : World SafePoint
unjoined = opening safe_behaviour 0 limits (forests.opening_forest (step.Read 1 ∷ step.Go 1 0 ∷ step.Go 1 0 ∷ []))

abbrev joined : World SafePoint
joined = after (command.Join ∷ []) unjoined

-- the reply to a command of session 0
abbrev reply_to_0 : Command → World SafePoint → Reply
reply_to_0 c w = (command_result 0 None c w).reply

no_branch : reply_to_0 (command.Remove (codes "zed") 0) joined ≡ No NoBranch
no_branch = refl

name_taken : reply_to_0 (command.Fork main 0 main) joined ≡ No NameTaken
name_taken = refl

bad_name : reply_to_0 (command.Fork main 0 (codes "9x")) joined ≡ No BadName
bad_name = refl

no_place : reply_to_0 (command.Remove main 3) joined ≡ No NoPlace
no_place = refl

bad_step : reply_to_0 (command.Insert main 0 (step.Write 1 0)) joined ≡ No BadStep
bad_step = refl

last_branch : reply_to_0 (command.Drop main) joined ≡ No LastBranch
last_branch = refl

no_break : reply_to_0 (command.Clear break.Void) joined ≡ No NoBreak
no_break = refl

no_session : (command_result 5 None command.Seek joined).reply ≡ No NoSession
no_session = refl

no_such_session : (command_result 16 None command.Join joined).reply ≡ No NoSession
no_such_session = refl

newer : (command_result 0 (Some 9) (command.Drop main) joined).reply ≡ No (Newer 0)
newer = refl

-- the world in which `a` is forked off `main`, and the cursor of session 0 is on `a`
abbrev forked : World SafePoint
forked = after (command.Fork main 0 a ∷ command.Go a 0 ∷ []) joined

occupied : reply_to_0 (command.Drop a) forked ≡ No Occupied
occupied = refl

too_many : reply_to_0 (command.Fork main 0 (codes "b")) forked ≡ No TooManyBranches
too_many = refl

drop_unoccupied : reply_to_0 (command.Drop a) (after (command.Leave ∷ []) forked) ≡ Edited 2
drop_unoccupied = refl

-- a world whose one branch has a write and a read that overlap
abbrev overlapped : World SafePoint
overlapped =
    after (command.Join ∷ [])
    (opening safe_behaviour 0 limits (forests.opening_forest (step.Write 0 1 ∷ step.Go 0 0 ∷ step.Read 1 ∷ step.Go 1 0 ∷ step.Go 0 0 ∷ step.Go 1 0 ∷ [])))

seek_to_chosen : reply_to_0 command.Seek (after (command.Break break.Chosen ∷ []) overlapped) ≡ Moved main 6
seek_to_chosen = refl

seek_finds_none : reply_to_0 command.Seek (after (command.Break break.Chosen ∷ command.Seek ∷ []) overlapped) ≡ NoHit
seek_finds_none = refl

seek_to_bit : reply_to_0 command.Seek (after (command.Break (break.Bit 0 1) ∷ []) overlapped) ≡ Moved main 5
seek_to_bit = refl

back_to_bit : reply_to_0 command.Back (after (command.Break (break.Bit 0 1) ∷ command.Go main 6 ∷ []) overlapped) ≡ Moved main 5
back_to_bit = refl

back_finds_none : reply_to_0 command.Back (after (command.Break (break.Bit 0 1) ∷ command.Go main 6 ∷ command.Back ∷ []) overlapped) ≡ NoHit
back_finds_none = refl

break_is_cleared : reply_to_0 (command.Clear break.Chosen) (after (command.Break break.Chosen ∷ command.Seek ∷ []) overlapped) ≡ BreakCleared
break_is_cleared = refl

-- a world whose log is full with one entry
abbrev one_logged : World SafePoint
one_logged = after (command.Join ∷ []) (opening safe_behaviour 0 (record { cells = 65536; branches = 2; log = 1 }) (forests.opening_forest []))

log_full : reply_to_0 command.Join one_logged ≡ No LogFull
log_full = refl

stays_full : (after (command.Join ∷ []) one_logged).logged ≡ 1
stays_full = refl
