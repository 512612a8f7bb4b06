-- Pages: what looks show, as data and as text.
use Rattle.std.specs.Prelude.{ℕ, List}
use Rattle.frames.specs.declared.types.Event.{Event}
use Rattle.frames.specs.Behaviour.{Behaviour}
use Rattle.frames.specs.Configuration.{Configuration}
use Rattle.pages.specs.declared.query.ConfigKind.{ConfigKind}
use Rattle.pages.specs.declared.query.ConfigKind.TheVariants as kind
use Rattle.pages.specs.declared.query.EventsKind.{EventsKind}
use Rattle.pages.specs.declared.query.EventsKind.TheVariants as which
use Rattle.pages.specs.declared.page.head.Head.{Head}
use Rattle.pages.specs.declared.page.Page.{Page}
use Rattle.pages.specs.declared.page.Page.TheVariants.{State, Process, Bits, Pending, History, Verdict, Branches, Cursor, Steps}
use Rattle.pages.specs.page.State.{state_page, state_text}
use Rattle.pages.specs.page.Process.{process_page, process_text}
use Rattle.pages.specs.page.Bits.{bits_page, bits_text}
use Rattle.pages.specs.page.Pending.{pending_page, pending_text}
use Rattle.pages.specs.page.History.{history_text}
use Rattle.pages.specs.page.Verdict.{verdict_page, verdict_text}
use Rattle.pages.specs.page.Branches.{branches_text}
use Rattle.pages.specs.page.Cursor.{cursor_text}
use Rattle.pages.specs.page.Steps.{steps_text}

-- the page, of a given kind, that shows a configuration
abbrev pub config_page : {R P : Type 0} → Behaviour P → ConfigKind → Head → Configuration R P → Page
config_page b kind.State head c = State (state_page b head c)
config_page b (kind.Process p) head c = Process (process_page b head p c)
config_page b kind.Bits head c = Bits (bits_page head c)
config_page b kind.Pending head c = Pending (pending_page b head c)

-- the page, of a given kind, that shows events, or the verdicts on the reads among them
abbrev pub events_page : EventsKind → Head → List (ℕ × Event) → Page
events_page which.History head events = History (record { head = head; events = events })
events_page (which.Verdict value) head events = Verdict (verdict_page head value events)

-- the text of a page, as the answer to the session with the number `session`
abbrev pub page_text : ℕ → Page → List ℕ
page_text session (State page) = state_text session page
page_text session (Process page) = process_text session page
page_text session (Bits page) = bits_text session page
page_text session (Pending page) = pending_text session page
page_text session (History page) = history_text session page
page_text session (Verdict page) = verdict_text session page
page_text session (Branches page) = branches_text session page
page_text session (Cursor page) = cursor_text session page
page_text session (Steps page) = steps_text session page
