-- How far a conversation has got, piece by piece of its script: what was read, and which answers
-- were written.
use Rattle.std.specs.Prelude.{ℕ, ◌≡◌, ◌-◌, List, ◌∷◌, [], ◌++◌, Result, Ok, Err, ⊤, All, false, take, length}
use Rattle.std.specs.Io.KnownBytes.{Appends, Consumes}
use Rattle.conversation.specs.declared.converse.Conversation.{Conversation}
use Rattle.conversation.specs.declared.fault.StreamFault.{StreamFault}
use Rattle.conversation.specs.declared.limits.TheConstants.{KEPT_BYTES}
use Rattle.conversation.specs.Streams.{Streams}
use Rattle.conversation.specs.Scripts.{LineAnswering, RefusedMemory, lines_of, after_lines, answers_to, is_line_end}
use Rattle.conversation.specs.Conversations.{Leaves, EndsWithFault}

-- The whole lines of the bytes `seen`, those that end with an LF, were answered, from the opening
-- world `start` on: `lines` is their number, `text` has their answers, and they left `world`. Some
-- of them may have been refused memory. `line` is what is kept of the bytes after the last LF: at
-- most the first KEPT_BYTES.
pub record HasAnswered {W : Type 0} (define : LineAnswering W) (start : W) (seen : List ℕ) (world : W) (lines : ℕ) (line text : List ℕ) : Type 0 where
  pub refused : RefusedMemory
  pub whole : List (List ℕ)
  pub rest : List ℕ
  pub cut : lines_of seen ≡ whole ++ rest ∷ []
  pub kept : line ≡ take KEPT_BYTES rest
  pub same_world : world ≡ (after_lines define start whole refused).world
  pub same_lines : lines ≡ (after_lines define start whole refused).lines
  pub same_text : text ≡ (after_lines define start whole refused).text

-- Suppose that some bytes were answered (`HasAnswered`), which left the conversation `before` and
-- the world `old`. Then these bytes followed by `piece` are answered, which leaves the conversation
-- `after` and the world `new`.
abbrev pub AnswersFurther : {W : Type 0} → LineAnswering W → W → Conversation → W → Conversation → List ℕ → Type 0
AnswersFurther {W} define old before new after piece = (start : W) (seen front : List ℕ)
    → HasAnswered define start seen old before.lines before.line.items (front ++ before.out.items)
    → HasAnswered define start (seen ++ piece) new after.lines after.line.items (front ++ after.out.items)

-- there is no line end in these bytes
abbrev pub HasNoEnd : List ℕ → Type 0
HasNoEnd bytes = All (λ b. is_line_end b ≡ false) bytes

-- what is kept of a line after its next bytes, `bytes`, are read: `line`, which was kept before,
-- and then the first of these bytes, up to KEPT_BYTES in all
abbrev pub kept_with : List ℕ → List ℕ → List ℕ
kept_with line bytes = line ++ take (KEPT_BYTES - length line) bytes

-- Since the start, when the streams held `before`, `count` bytes were read, and the answers to
-- their whole lines were written; the streams now hold `after`. `world`, `lines` and `line` are as
-- in `HasAnswered`.
pub record Reached {W : Type 0} (define : LineAnswering W) (start : W) (before after : Streams) (count : ℕ) (world : W) (lines : ℕ) (line : List ℕ) : Type 0 where
  pub seen : List ℕ
  pub text : List ℕ
  pub read : Consumes before.unread after.unread seen
  pub counted : length seen ≡ count
  pub wrote : Appends before.written after.written text
  pub reported : HasAnswered define start seen world lines line text

-- the result of answering one more piece of a script: all bytes read so far are answered, as
-- `Reached` says; or there was a fault
abbrev pub PieceAnswered : {W : Type 0} → LineAnswering W → W → Streams → Streams → ℕ → W → ℕ → List ℕ → Result ⊤ StreamFault → Type 0
PieceAnswered define start before after count world lines line (Ok done) = Reached define start before after count world lines line
PieceAnswered define start before after count world lines line (Err e) = EndsWithFault (answers_to define start) e before after

-- the result at the end of a conversation: the whole script is answered, and leaves `world`; or
-- there was a fault
abbrev pub Finished : {W : Type 0} → LineAnswering W → W → Streams → Streams → W → Result ⊤ StreamFault → Type 0
Finished define start before after world (Ok done) = Leaves define start world before after
Finished define start before after world (Err e) = EndsWithFault (answers_to define start) e before after
