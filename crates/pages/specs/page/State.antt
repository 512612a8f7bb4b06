-- The page of a configuration: its processes, and the values of all cells and words.
use Rattle.std.specs.Prelude.{ℕ, List, ◌++◌, codes, map}
use Rattle.frames.specs.Behaviour.{Behaviour}
use Rattle.frames.specs.Configuration.{Configuration}
use Rattle.pages.specs.declared.page.head.Head.{Head}
use Rattle.pages.specs.declared.page.state.StatePage.{StatePage}
use Rattle.pages.specs.Lines.{numbered_lines}
use Rattle.pages.specs.page.Head.{head_line}
use Rattle.pages.specs.page.Process.{statuses, status_line}
use Rattle.pages.specs.page.Memory.{cell_value, bits_line, words_line}

-- the page that shows what each process is doing, and the values of all bit cells and words
abbrev pub state_page : {R P : Type 0} → Behaviour P → Head → Configuration R P → StatePage
state_page b head c = record { head = head; processes = statuses b c; bits = map cell_value c.memory.cells; words = c.memory.words }

-- the text of a page of a configuration, as the answer to the session with this number
abbrev pub state_text : ℕ → StatePage → List ℕ
state_text session p = head_line session (codes "state") p.head ++ numbered_lines status_line 0 p.processes ++ bits_line p.bits ++ words_line p.words
