-- The page of history, which has a line for each event.
use Rattle.std.specs.Prelude.{ℕ, List, ◌++◌, codes}
use Rattle.std.specs.Fmt.{decimal}
use Rattle.frames.specs.declared.types.Event.{Event}
use Rattle.frames.specs.declared.types.Event.TheVariants.{Invoke, Got, Wrote, Refused, Void, Stop, Chosen}
use Rattle.pages.specs.declared.page.history.HistoryPage.{HistoryPage}
use Rattle.pages.specs.Lines.{lines_or_none}
use Rattle.pages.specs.page.Head.{line_end, head_line}
use Rattle.pages.specs.page.Names.{layer_name, reason_name}
use Rattle.pages.specs.page.Memory.{bit_name}
use Rattle.pages.specs.page.Process.{op_text}

-- the number of the process of an event
abbrev pub event_process : Event → ℕ
event_process (Invoke p o) = p
event_process (Got p v) = p
event_process (Wrote p) = p
event_process (Refused p layer) = p
event_process (Void p why) = p
event_process (Stop p) = p
event_process (Chosen p bit v) = p

-- the text of an event: its kind, and its operation, value, layer, reason or bit if it has them
abbrev pub event_text : Event → List ℕ
event_text (Invoke p o) = codes "invoke " ++ op_text o
event_text (Got p v) = codes "return " ++ decimal v
event_text (Wrote p) = codes "return written"
event_text (Refused p layer) = codes "refused spent " ++ layer_name layer
event_text (Void p why) = codes "void " ++ reason_name why
event_text (Stop p) = codes "stop"
event_text (Chosen p bit v) = codes "chosen bit " ++ decimal bit ++ codes " value " ++ bit_name v

-- the line of an event: the index of its step, its process, and its text
abbrev pub event_line : ℕ × Event → List ℕ
event_line e = codes "  " ++ decimal e.0 ++ codes " p" ++ decimal (event_process e.1) ++ codes " " ++ event_text e.1 ++ line_end

-- a line for each event, with the index of its step, or the line `none` if there are no events
abbrev pub history_lines : List (ℕ × Event) → List ℕ
history_lines events = lines_or_none (λ i event. event_line event) events

-- the text of a page of history, as the answer to the session with this number
abbrev pub history_text : ℕ → HistoryPage → List ℕ
history_text session page = head_line session (codes "history") page.head ++ history_lines page.events
