-- The bytes of answers: one line each, ended by LF.
use Rattle.std.specs.Prelude.{ℕ, List, [], ◌++◌, codes}
use Rattle.std.specs.Fmt.{decimal}
use Rattle.schedule_trie.specs.declared.refusal.Refusal.{Refusal}
use Rattle.schedule_trie.specs.declared.refusal.Refusal.TheVariants.{Newer, BadLine}
use Rattle.schedule_trie.specs.Refusals.{refusal_number, refusal_name}
use Rattle.sessions.specs.declared.reply.Reply.{Reply}
use Rattle.sessions.specs.declared.reply.Reply.TheVariants.{Joined, Left, Edited, Moved, NoHit, BreakSet, BreakCleared, No}
use Rattle.pages.specs.page.Head.{line_end}

-- the text after a refusal's name: for Newer, a space and the edit count; otherwise nothing
abbrev pub refusal_detail : Refusal → List ℕ
refusal_detail (Newer edits) = codes " " ++ decimal edits
refusal_detail r = []

-- the text of a refusal: `refused`, the refusal's number and name, and for Newer the edit count
abbrev pub refusal_text : Refusal → List ℕ
refusal_text r = codes "refused " ++ decimal (refusal_number r) ++ codes " " ++ refusal_name r ++ refusal_detail r

-- the text of the reply that a cursor has moved to this place of this branch
abbrev pub place_text : List ℕ → ℕ → List ℕ
place_text branch place = codes "at " ++ branch ++ codes " " ++ decimal place

-- the text of a reply, without the session's number that begins its line
abbrev pub reply_text : Reply → List ℕ
reply_text Joined = codes "joined"
reply_text Left = codes "left"
reply_text (Edited edits) = codes "edit " ++ decimal edits
reply_text (Moved branch place) = place_text branch place
reply_text NoHit = codes "no hit"
reply_text BreakSet = codes "break set"
reply_text BreakCleared = codes "break cleared"
reply_text (No r) = refusal_text r

-- the line that answers a session's call with a reply: the session's number, and the reply
abbrev pub answer_text : ℕ → Reply → List ℕ
answer_text session reply = decimal session ++ codes ": " ++ reply_text reply ++ line_end

-- the line that answers a session's fill if the fill isn't refused
abbrev pub filled_text : ℕ → List ℕ
filled_text session = decimal session ++ codes ": filled" ++ line_end

-- the line that answers a bad line: the bad line's number, and the refusal BadLine
abbrev pub bad_line_text : ℕ → List ℕ
bad_line_text line = codes "line " ++ decimal line ++ codes ": " ++ refusal_text BadLine ++ line_end
