-- The answer to a line of a script, and the world after the line.
use Rattle.std.specs.Prelude.{ℕ, Bool, true, false, List, [], Option, Some, None, Result, Ok, Err}
use Rattle.schedule_trie.specs.declared.refusal.Refusal.{Refusal}
use Rattle.schedule_trie.specs.declared.refusal.Refusal.TheVariants.{NoBranch, Memory}
use Rattle.schedule_trie.specs.Forest.{Forest, index_of}
use Rattle.conversation.specs.Scripts.{Answered}
use Rattle.pages.specs.declared.query.Query.{Query}
use Rattle.pages.specs.declared.page.Page.{Page}
use Rattle.pages.specs.Pages.{page_text}
use Rattle.sessions.specs.declared.reply.Reply.TheVariants.{No}
use Rattle.sessions.specs.World.{World}
use Rattle.sessions.specs.declared.command.Command.{Command}
use Rattle.sessions.specs.Acts.{CommandResult, command_result, is_full}
use Rattle.sessions.specs.Looks.{looked_in, shown_in}
use Rattle.script.specs.declared.call.Request.{Request}
use Rattle.script.specs.declared.call.Request.TheVariants.{Act, Look, Fill}
use Rattle.script.specs.declared.call.Call.{Call}
use Rattle.script.specs.declared.call.Line.{Line}
use Rattle.script.specs.declared.call.Line.TheVariants as line
use Rattle.script.specs.Lines.{read_line}
use Rattle.script.specs.Texts.{answer_text, filled_text, bad_line_text}

-- the text of a page, or nothing if there is no page
abbrev pub page_text_or_nothing : ℕ → Option Page → List ℕ
page_text_or_nothing session None = []
page_text_or_nothing session (Some page) = page_text session page

-- the text of the page that a look shows in world w; nothing if the look is refused
abbrev pub shown_text : {P : Type 0} → ℕ → Query → World P → List ℕ
shown_text session query w = page_text_or_nothing session (shown_in w query)

-- this text; or, if memory ran out, that of the refusal Memory
abbrev pub unless_memory : Bool → ℕ → List ℕ → List ℕ
unless_memory false session text = text
unless_memory true session text = answer_text session (No Memory)

-- the answer to a look, given whether memory ran out: if the look is refused, the text of its
-- refusal; otherwise the text of its page, or the refusal Memory if memory ran out
abbrev pub look_text : Bool → ℕ → Result Forest Refusal → List ℕ → List ℕ
look_text memory session (Ok f) page = unless_memory memory session page
look_text memory session (Err r) page = answer_text session (No r)

-- the answer to a fill, given whether memory ran out, and the index of the fill's branch (`None` if
-- there is no such branch): without a branch, the refusal NoBranch; otherwise `filled`, or the
-- refusal Memory if memory ran out
abbrev pub fill_text : Bool → ℕ → Option ℕ → List ℕ
fill_text memory session None = answer_text session (No NoBranch)
fill_text memory session (Some index) = unless_memory memory session (filled_text session)

-- the result of a session's command as an answer: the world after the command, and the line with
-- its reply
abbrev pub replied : {P : Type 0} → ℕ → CommandResult P → Answered (World P)
replied session a = record { world = a.world; text = answer_text session a.reply }

-- the result of a command that was refused memory, given whether the log is full, and the command's
-- own result: if the log is full, its own result, which is LogFull; otherwise the refusal Memory,
-- and the world is unchanged
abbrev pub without_memory : {P : Type 0} → Bool → CommandResult P → World P → CommandResult P
without_memory true own w = own
without_memory false own w = record { world = w; reply = No Memory }

-- the result of a session's command, given whether the command was refused memory
abbrev pub carried_out : {P : Type 0} → Bool → ℕ → Option ℕ → Command → World P → CommandResult P
carried_out false session guard command w = command_result session guard command w
carried_out true session guard command w = without_memory (is_full w) (command_result session guard command w) w

-- the answer to a request and the world after it, given whether memory ran out: a command is
-- answered by its reply, a look by its page or its refusal, and a fill by `filled` or NoBranch. If
-- memory ran out, the answer is the refusal Memory, and the world is unchanged; but a full log, and
-- each reason to refuse a look or a fill, take precedence over Memory.
abbrev pub performed : {P : Type 0} → Bool → ℕ → Request → World P → Answered (World P)
performed memory session (Act guard command) w = replied session (carried_out memory session guard command w)
performed memory session (Look query) w = record { world = w; text = look_text memory session (looked_in w query) (shown_text session query w) }
performed memory session (Fill branch) w = record { world = w; text = fill_text memory session (index_of w.forest.branches branch) }

-- the answer to a call and the world after it, given whether memory ran out
abbrev pub answer_call : {P : Type 0} → Bool → Call → World P → Answered (World P)
answer_call memory c w = performed memory c.session c.request w

-- the answer to line `n` and the world after it, given what the line says, and whether memory ran
-- out (`memory`)
abbrev pub answer_to : {P : Type 0} → Bool → ℕ → Line → World P → Answered (World P)
answer_to memory n line.Blank w = record { world = w; text = [] }
answer_to memory n line.Bad w = record { world = w; text = bad_line_text n }
answer_to memory n (line.Call c) w = answer_call memory c w

-- the answer to line `n` of a script and the world after it, given the line's text, and whether
-- memory ran out (`memory`)
abbrev pub answer_line : {P : Type 0} → Bool → ℕ → List ℕ → World P → Answered (World P)
answer_line memory n text w = answer_to memory n (read_line text) w
