-- What a conversation reads and writes, whether it ends well or with a fault.
use Rattle.std.specs.Prelude.{ℕ, ◌≡◌, ◌<◌, ◌≤◌, ◌⊎◌, List, ◌++◌, Option, length, take}
use Rattle.std.specs.Io.KnownBytes.{Appends, Consumes, IsAtEnd}
use Rattle.conversation.specs.declared.fault.StreamFault.{StreamFault}
use Rattle.conversation.specs.declared.fault.StreamFault.TheVariants.{Read, Write, TooLong, Memory}
use Rattle.conversation.specs.declared.limits.TheConstants.{MOST_SCRIPT_BYTES}
use Rattle.conversation.specs.Streams.{Streams}
use Rattle.conversation.specs.Scripts.{LineAnswering, RefusedMemory, after_lines, answers_to, lines_of, whole_lines}

-- how scripts are answered: a function from a script's lines, and which of them were refused
-- memory, to the text of all answers
abbrev pub Answering : Type 0
Answering = List (List ℕ) → RefusedMemory → List ℕ

-- `front` is a prefix of `all`
abbrev pub IsPrefix : List ℕ → List ℕ → Type 0
IsPrefix front all = (rest : List ℕ) × (all ≡ front ++ rest)

-- a prefix of `bytes` was written, to a writer that had `before` and now has `after`
abbrev pub WrotePrefix : Option (List ℕ) → Option (List ℕ) → List ℕ → Type 0
WrotePrefix before after bytes = (front : List ℕ) × IsPrefix front bytes × Appends before after front

-- A script of fewer than MOST_SCRIPT_BYTES bytes was read to its end, and the answers to all its
-- lines were written. `before` and `after` are what the streams held before and after this.
pub record IsAnswered (answering : Answering) (before after : Streams) : Type 0 where
  pub script : List ℕ
  pub refused : RefusedMemory
  pub read : Consumes before.unread after.unread script
  pub ended : IsAtEnd after.unread
  pub short : length script < MOST_SCRIPT_BYTES
  pub wrote : Appends before.written after.written (answering (lines_of script) refused)

-- A whole script was read and answered, and its lines turned the world `start` into `world`.
pub record Leaves {W : Type 0} (define : LineAnswering W) (start world : W) (before after : Streams) : Type 0 where
  pub answered : IsAnswered (answers_to define start) before after
  pub left : world ≡ (after_lines define start (lines_of answered.script) answered.refused).world

-- The text that was written by the time of a fault, if the bytes `seen` were read. After a failed
-- read, or if the script is too long: the answers to all whole lines, which end with an LF. If
-- memory ran out: the answers to the first `count` whole lines, for some `count`. After a failed
-- write: a prefix of the answers to the whole lines, or, at the script's end, a prefix of the
-- answers to all lines. Such a prefix may end within an answer.
abbrev pub WentOut : StreamFault → Answering → RefusedMemory → List ℕ → Option (List ℕ) → List ℕ → Type 0
WentOut Read answering refused seen unread text = text ≡ answering (whole_lines seen) refused
WentOut TooLong answering refused seen unread text = text ≡ answering (whole_lines seen) refused
WentOut Write answering refused seen unread text =
    IsPrefix text (answering (whole_lines seen) refused) ⊎ (IsAtEnd unread × IsPrefix text (answering (lines_of seen) refused))
WentOut Memory answering refused seen unread text = (count : ℕ) × (text ≡ answering (take count (whole_lines seen)) refused)

-- A conversation ended with this fault. At most MOST_SCRIPT_BYTES bytes, `seen`, were read, and
-- `text` was written: a prefix of the answers, as `WentOut` says for this fault. `before` and
-- `after` are what the streams held before and after the conversation.
pub record EndsWithFault (answering : Answering) (fault : StreamFault) (before after : Streams) : Type 0 where
  pub seen : List ℕ
  pub refused : RefusedMemory
  pub text : List ℕ
  pub read : Consumes before.unread after.unread seen
  pub few : length seen ≤ MOST_SCRIPT_BYTES
  pub wrote : Appends before.written after.written text
  pub went : WentOut fault answering refused seen after.unread text
