-- The grammar of a line of a script. A definition with an optional result reads one or more words,
-- and gives `None` if they don't spell what it reads.
use Rattle.std.specs.Prelude.{ℕ, List, [], ◌∷◌, Option, Some, None, Bool, ◌==◌, ◌&&◌, nat_le, length, codes, if◌then◌else◌}
use Rattle.std.specs.Option.{option_map, option_and_then}
use Rattle.std.specs.List.{list_all}
use Rattle.std.specs.Str.{bytes_eq}
use Rattle.schedule_trie.specs.Names.{name_of_bytes}
use Rattle.pages.specs.declared.breakpoint.Break.{Break}
use Rattle.pages.specs.declared.breakpoint.Break.TheVariants as break
use Rattle.pages.specs.declared.query.Query.{Query}
use Rattle.pages.specs.declared.query.Query.TheVariants.{State, Process, Bits, Pending, History, Verdict, Branches, Cursor, Steps}
use Rattle.sessions.specs.declared.command.Command.{Command}
use Rattle.sessions.specs.declared.command.Command.TheVariants as command
use Rattle.words.specs.Words.{words, next, after_next, is_end}
use Rattle.words.specs.Options.{◌>>=◌}
use Rattle.words.specs.Numbers.{number, one_number, two_numbers}
use Rattle.words.specs.Steps.{step_of_words}
use Rattle.script.specs.declared.verb.Verb.{Verb}
use Rattle.script.specs.declared.verb.Verb.TheVariants as verb
use Rattle.script.specs.declared.verb.LookVerb.{LookVerb}
use Rattle.script.specs.declared.verb.LookVerb.TheVariants as look
use Rattle.script.specs.declared.verb.CommandVerb.{CommandVerb}
use Rattle.script.specs.declared.verb.CommandVerb.TheVariants as command_verb
use Rattle.script.specs.declared.call.Request.{Request}
use Rattle.script.specs.declared.call.Request.TheVariants.{Act, Look, Fill}
use Rattle.script.specs.declared.call.Call.{Call}
use Rattle.script.specs.declared.call.Line.{Line}
use Rattle.script.specs.declared.call.Line.TheVariants as line

-- the word as the name of a branch, if it has 1 to 16 bytes
abbrev pub branch_word : List ℕ → Option (List ℕ)
branch_word word = if length word == 0 then None else name_of_bytes word

-- reads the name of a branch, with no words after it
abbrev pub only_branch : List (List ℕ) → Option (List ℕ)
only_branch ws = do
  b ← branch_word (next ws)
  if is_end (after_next ws) then Some b else None

-- reads a branch's name and a place, with no words after them
abbrev pub branch_and_place : List (List ℕ) → Option (List ℕ × ℕ)
branch_and_place ws = do
  b ← branch_word (next ws)
  k ← one_number (after_next ws)
  Some (b, k)

-- reads a branch's name and a place, which more words may follow
abbrev pub place_in : List (List ℕ) → Option (List ℕ × ℕ)
place_in ws = do
  b ← branch_word (next ws)
  k ← number (next (after_next ws))
  Some (b, k)

-- reads a branch's name and a place, and the words after them by `read`
abbrev pub place_and_rest : {A : Type 0} → (List (List ℕ) → Option A) → List (List ℕ) → Option (List ℕ × ℕ × A)
place_and_rest read ws = do
  p ← place_in ws
  x ← read (after_next (after_next ws))
  Some (p.0, p.1, x)

-- `it`, if no words are left
abbrev pub if_no_more : {A : Type 0} → A → List (List ℕ) → Option A
if_no_more it ws = if is_end ws then Some it else None

-- reads a break that is spelled by one word: `chosen`, `void` or `refused`
abbrev pub one_word_break : List ℕ → Option Break
one_word_break word =
    if bytes_eq word (codes "chosen") then Some break.Chosen
    else (if bytes_eq word (codes "void") then Some break.Void
    else (if bytes_eq word (codes "refused") then Some break.Refused
    else None))

-- reads a break, which is `returns P`, `bit J V`, `chosen`, `void` or `refused`. No words may
-- follow the break.
abbrev pub break_of : List (List ℕ) → Option Break
break_of ws =
    if bytes_eq (next ws) (codes "returns") then option_map break.Returns (one_number (after_next ws))
    else (if bytes_eq (next ws) (codes "bit") then option_map (λ n. break.Bit n.0 n.1) (two_numbers (after_next ws))
    else (if is_end (after_next ws) then one_word_break (next ws) else None))

-- the first word of each request, and what it selects
abbrev pub verb_words : List (List ℕ × Verb)
verb_words =
    (codes "branches", verb.Look look.Branches)
    ∷ (codes "cursor", verb.Look look.Cursor)
    ∷ (codes "steps", verb.Look look.Steps)
    ∷ (codes "process", verb.Look look.Process)
    ∷ (codes "state", verb.Look look.State)
    ∷ (codes "pending", verb.Look look.Pending)
    ∷ (codes "bits", verb.Look look.Bits)
    ∷ (codes "history", verb.Look look.History)
    ∷ (codes "verdict", verb.Look look.Verdict)
    ∷ (codes "fill", verb.Fill)
    ∷ (codes "join", verb.Command command_verb.Join)
    ∷ (codes "leave", verb.Command command_verb.Leave)
    ∷ (codes "seek", verb.Command command_verb.Seek)
    ∷ (codes "back", verb.Command command_verb.Back)
    ∷ (codes "go", verb.Command command_verb.Go)
    ∷ (codes "break", verb.Command command_verb.Break)
    ∷ (codes "clear", verb.Command command_verb.Clear)
    ∷ (codes "insert", verb.Command command_verb.Insert)
    ∷ (codes "remove", verb.Command command_verb.Remove)
    ∷ (codes "replace", verb.Command command_verb.Replace)
    ∷ (codes "fork", verb.Command command_verb.Fork)
    ∷ (codes "detach", verb.Command command_verb.Detach)
    ∷ (codes "drop", verb.Command command_verb.Drop)
    ∷ []

-- what a word selects by a table; `None` if the table doesn't have the word
abbrev pub verb_in : List (List ℕ × Verb) → List ℕ → Option Verb
verb_in [] word = None
verb_in (row ∷ rows) word = if bytes_eq word row.0 then Some row.1 else verb_in rows word

-- what the first word of a request selects; `None` if it is no such word
abbrev pub verb_of : List ℕ → Option Verb
verb_of word = verb_in verb_words word

-- reads the words of a session's look after its first word
abbrev pub look_of : ℕ → LookVerb → List (List ℕ) → Option Query
look_of session look.Branches ws = if_no_more Branches ws
look_of session look.Cursor ws = if_no_more (Cursor session) ws
look_of session look.Steps ws = option_map Steps (only_branch ws)
look_of session look.Process ws = option_map (λ p. Process p.0 p.1 p.2) (place_and_rest one_number ws)
look_of session look.State ws = option_map (λ p. State p.0 p.1) (branch_and_place ws)
look_of session look.Pending ws = option_map (λ p. Pending p.0 p.1) (branch_and_place ws)
look_of session look.Bits ws = option_map (λ p. Bits p.0 p.1) (branch_and_place ws)
look_of session look.History ws = option_map (λ p. History p.0 p.1) (branch_and_place ws)
look_of session look.Verdict ws = option_map (λ p. Verdict p.0 p.1) (branch_and_place ws)

-- reads the words of a command after its first word
abbrev pub command_of : CommandVerb → List (List ℕ) → Option Command
command_of command_verb.Join ws = if_no_more command.Join ws
command_of command_verb.Leave ws = if_no_more command.Leave ws
command_of command_verb.Seek ws = if_no_more command.Seek ws
command_of command_verb.Back ws = if_no_more command.Back ws
command_of command_verb.Go ws = option_map (λ p. command.Go p.0 p.1) (branch_and_place ws)
command_of command_verb.Break ws = option_map command.Break (break_of ws)
command_of command_verb.Clear ws = option_map command.Clear (break_of ws)
command_of command_verb.Insert ws = option_map (λ p. command.Insert p.0 p.1 p.2) (place_and_rest step_of_words ws)
command_of command_verb.Remove ws = option_map (λ p. command.Remove p.0 p.1) (branch_and_place ws)
command_of command_verb.Replace ws = option_map (λ p. command.Replace p.0 p.1 p.2) (place_and_rest step_of_words ws)
command_of command_verb.Fork ws = option_map (λ p. command.Fork p.0 p.1 p.2) (place_and_rest only_branch ws)
command_of command_verb.Detach ws = option_map command.Detach (only_branch ws)
command_of command_verb.Drop ws = option_map command.Drop (only_branch ws)

-- reads the words of a command after its first word; the first argument is its guard, if it has one
abbrev pub act_of : Option ℕ → CommandVerb → List (List ℕ) → Option Request
act_of guard v ws = option_map (Act guard) (command_of v ws)

-- reads the words after the first word of a command that has a guard, given what that word selects
abbrev pub guarded_by : ℕ → Option Verb → List (List ℕ) → Option Request
guarded_by edits (Some (verb.Command v)) ws = act_of (Some edits) v ws
guarded_by edits other ws = None

-- reads a command with a guard. `word` is `@` and the guard, which must be a number; the words
-- after it are those of the command.
abbrev pub guarded : List ℕ → List (List ℕ) → Option Request
guarded [] ws = None
guarded (b ∷ bs) ws =
    if b == 64 then option_and_then (λ edits. guarded_by edits (verb_of (next ws)) (after_next ws)) (number bs) else None

-- reads the words of a request after its first word `word`, given what that word selects
abbrev pub request_by : ℕ → List ℕ → Option Verb → List (List ℕ) → Option Request
request_by session word (Some (verb.Look v)) ws = option_map Look (look_of session v ws)
request_by session word (Some verb.Fill) ws = option_map Fill (only_branch ws)
request_by session word (Some (verb.Command v)) ws = act_of None v ws
request_by session word None ws = guarded word ws

-- reads a session's request, which is a look, a fill, or a command; only a command may have a
-- guard. `word` is the request's first word.
abbrev pub request_of : ℕ → List ℕ → List (List ℕ) → Option Request
request_of session word ws = request_by session word (verb_of word) ws

-- reads a call: the number of a session, and then that session's request
abbrev pub call_of : List (List ℕ) → Option Call
call_of ws = do
  s ← number (next ws)
  r ← request_of s (next (after_next ws)) (after_next (after_next ws))
  Some (record { session = s; request = r })

-- whether a call may have this byte, one of 0x20 to 0x7E
abbrev pub is_call_byte : ℕ → Bool
is_call_byte b = nat_le 32 b && nat_le b 126

-- what a line says, given its session and the request that was read from it; it is bad if none was
-- read
abbrev pub line_of : ℕ → Option Request → Line
line_of session None = line.Bad
line_of session (Some r) = line.Call (record { session = session; request = r })

-- what a line says, given the call that was read from it; it is bad if none was read
abbrev pub call_or_bad : Option Call → Line
call_or_bad None = line.Bad
call_or_bad (Some c) = line.Call c

-- what a line that isn't blank says: the call that it spells, if it has at most 255 bytes and all
-- are call bytes; else that it is bad
abbrev pub call_line : List ℕ → Line
call_line text = if nat_le (length text) 255 && list_all is_call_byte text then call_or_bad (call_of (words text)) else line.Bad

-- what a line says: nothing if it is empty or begins with `#`; otherwise the call that it spells;
-- or that it is bad, if it spells no call
abbrev pub read_line : List ℕ → Line
read_line [] = line.Blank
read_line (b ∷ bs) = if b == 35 then line.Blank else call_line (b ∷ bs)
