-- The one text that spells each call, and what a line says according to the texts of calls.
use Rattle.std.specs.Prelude.{ℕ, ◌≡◌, ◌^◌, Bool, true, ◌&&◌, nat_lt, nat_le, List, [], ◌∷◌, ◌++◌, Some, None, ⊤, length, map, codes, decimal}
use Rattle.std.specs.List.{list_all, join_with_byte}
use Rattle.frames.specs.declared.types.Step.{Step}
use Rattle.frames.specs.declared.types.Step.TheVariants as step
use Rattle.pages.specs.declared.breakpoint.Break.{Break}
use Rattle.pages.specs.declared.breakpoint.Break.TheVariants as break
use Rattle.pages.specs.declared.query.Query.{Query}
use Rattle.pages.specs.declared.query.Query.TheVariants.{State, Process, Bits, Pending, History, Verdict, Branches, Cursor, Steps}
use Rattle.sessions.specs.declared.command.Command.{Command}
use Rattle.sessions.specs.declared.command.Command.TheVariants as command
use Rattle.script.specs.declared.call.Request.{Request}
use Rattle.script.specs.declared.call.Request.TheVariants.{Act, Look, Fill}
use Rattle.script.specs.declared.call.Call.{Call}
use Rattle.script.specs.declared.call.Line.{Line}
use Rattle.script.specs.declared.call.Line.TheVariants as line

-- a word of a call: a text, which is a fixed word (such as `join`) or a branch's name; a number; or
-- a guard
pub data Word : Type 0 where
  Text : List ℕ → Word
  Number : ℕ → Word
  Guard : ℕ → Word

-- the bytes of a word: numbers are in decimal, and a guard has an `@` before it
abbrev pub spelled : Word → List ℕ
spelled (Text t) = t
spelled (Number n) = decimal n
spelled (Guard n) = codes "@" ++ decimal n

-- the words of a step
abbrev pub step_words : Step → List Word
step_words (step.Write p v) = Text (codes "w") ∷ Number p ∷ Number v ∷ []
step_words (step.Read p) = Text (codes "r") ∷ Number p ∷ []
step_words (step.Go p c) = Text (codes "g") ∷ Number p ∷ Number c ∷ []
step_words (step.Stop p) = Text (codes "x") ∷ Number p ∷ []

-- the words of a break
abbrev pub break_words : Break → List Word
break_words (break.Returns p) = Text (codes "returns") ∷ Number p ∷ []
break_words (break.Bit j v) = Text (codes "bit") ∷ Number j ∷ Number v ∷ []
break_words break.Chosen = Text (codes "chosen") ∷ []
break_words break.Void = Text (codes "void") ∷ []
break_words break.Refused = Text (codes "refused") ∷ []

-- the words of a place of a branch: the branch's name and the place's number
abbrev pub place_words : List ℕ → ℕ → List Word
place_words branch place = Text branch ∷ Number place ∷ []

-- the words of a command
abbrev pub command_words : Command → List Word
command_words command.Join = Text (codes "join") ∷ []
command_words command.Leave = Text (codes "leave") ∷ []
command_words (command.Insert b k s) = Text (codes "insert") ∷ Text b ∷ Number k ∷ step_words s
command_words (command.Remove b k) = Text (codes "remove") ∷ place_words b k
command_words (command.Replace b k s) = Text (codes "replace") ∷ Text b ∷ Number k ∷ step_words s
command_words (command.Fork b k name) = Text (codes "fork") ∷ Text b ∷ Number k ∷ Text name ∷ []
command_words (command.Detach b) = Text (codes "detach") ∷ Text b ∷ []
command_words (command.Drop b) = Text (codes "drop") ∷ Text b ∷ []
command_words (command.Go b k) = Text (codes "go") ∷ place_words b k
command_words command.Seek = Text (codes "seek") ∷ []
command_words command.Back = Text (codes "back") ∷ []
command_words (command.Break br) = Text (codes "break") ∷ break_words br
command_words (command.Clear br) = Text (codes "clear") ∷ break_words br

-- the words of a look
abbrev pub query_words : Query → List Word
query_words (State b k) = Text (codes "state") ∷ place_words b k
query_words (Process b k p) = Text (codes "process") ∷ Text b ∷ Number k ∷ Number p ∷ []
query_words (Bits b k) = Text (codes "bits") ∷ place_words b k
query_words (Pending b k) = Text (codes "pending") ∷ place_words b k
query_words (History b k) = Text (codes "history") ∷ place_words b k
query_words (Verdict b k) = Text (codes "verdict") ∷ place_words b k
query_words Branches = Text (codes "branches") ∷ []
query_words (Cursor who) = Text (codes "cursor") ∷ []
query_words (Steps b) = Text (codes "steps") ∷ Text b ∷ []

-- the words of a request: only a command can have a guard, which comes first
abbrev pub request_words : Request → List Word
request_words (Act None c) = command_words c
request_words (Act (Some edits) c) = Guard edits ∷ command_words c
request_words (Look query) = query_words query
request_words (Fill b) = Text (codes "fill") ∷ Text b ∷ []

-- the words of a call: the number of a session, and its request
abbrev pub call_words : Call → List Word
call_words c = Number c.session ∷ request_words c.request

-- the text of a call: its words, with one space between them
abbrev pub call_text : Call → List ℕ
call_text c = join_with_byte 32 (map spelled (call_words c))

-- whether a word may have this byte, one of 0x21 to 0x7E: any byte of a call but the space
abbrev pub is_visible : ℕ → Bool
is_visible b = nat_le 33 b && nat_le b 126

-- whether a word is sound, so that a line may have it: a text has 1 to 16 bytes from 0x21 to 0x7E,
-- and a number or a guard has at most 9 digits
abbrev pub is_sound : Word → Bool
is_sound (Text t) = (nat_le 1 (length t) && nat_le (length t) 16) && list_all is_visible t
is_sound (Number n) = nat_lt n (10 ^ 9)
is_sound (Guard n) = nat_lt n (10 ^ 9)

-- if a session's request is a look at a cursor, the cursor is that session's own
abbrev pub IsOwn : ℕ → Request → Type 0
IsOwn session (Look (Cursor who)) = who ≡ session
IsOwn session r = ⊤

-- A text spells a call: it is the call's text; the call's words are sound; and if the call is a
-- look at a cursor, that cursor is the session's own.
pub record SpellsCall (text : List ℕ) (c : Call) : Type 0 where
  pub own : IsOwn c.session c.request
  pub sound : list_all is_sound (call_words c) ≡ true
  pub text_is : text ≡ call_text c

-- a line is blank: it is empty, or begins with `#`
abbrev pub IsBlankLine : List ℕ → Type 0
IsBlankLine [] = ⊤
IsBlankLine (b ∷ bs) = b ≡ 35

-- A line that is empty or begins with `#` is blank, and says nothing. A line says a call if it
-- spells that call. It says that it is bad if it isn't blank and spells no call.
abbrev pub LineSays : List ℕ → Line → Type 0
LineSays text line.Blank = IsBlankLine text
LineSays text line.Bad = (IsBlankLine text → ⊥) × ((c : Call) → SpellsCall text c → ⊥)
LineSays text (line.Call c) = SpellsCall text c
