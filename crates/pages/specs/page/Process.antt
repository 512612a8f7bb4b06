-- The page that shows one process. Also the lines of processes: other pages have such lines too.
use Rattle.std.specs.Prelude.{ℕ, List, [], ◌++◌, Option, Some, None, Bool, nat_lt, codes, map, if◌then◌else◌}
use Rattle.std.specs.List.{range_with_len}
use Rattle.std.specs.Fmt.{decimal}
use Rattle.frames.specs.declared.types.Op.{Op}
use Rattle.frames.specs.declared.types.Op.TheVariants as op
use Rattle.frames.specs.declared.types.Action.{Action}
use Rattle.frames.specs.declared.running.Running.{Running}
use Rattle.frames.specs.Behaviour.{Behaviour}
use Rattle.frames.specs.Configuration.{Configuration, running_at, is_stopped}
use Rattle.pages.specs.declared.page.process.ProcessStatus.{ProcessStatus}
use Rattle.pages.specs.declared.page.process.ProcessStatus.TheVariants.{Idle, Busy, Stopped}
use Rattle.pages.specs.declared.page.head.Head.{Head}
use Rattle.pages.specs.declared.page.process.ProcessPage.{ProcessPage}
use Rattle.pages.specs.page.Head.{line_end, head_line}
use Rattle.pages.specs.page.Names.{kind_name}

-- what a process is doing, given its pending operation, if any, and whether it has stopped
abbrev pub status : {P : Type 0} → Behaviour P → Option (Running P) → Bool → ProcessStatus
status b None stopped = Idle stopped
status b (Some r) stopped = if stopped then Stopped r.op else Busy r.op (b.acts r.point)

-- what process p is doing in a configuration
abbrev pub status_at : {R P : Type 0} → Behaviour P → Configuration R P → ℕ → ProcessStatus
status_at b c p = status b (running_at p c) (is_stopped p c)

-- what each process is doing in a configuration, in the order of the processes
abbrev pub statuses : {R P : Type 0} → Behaviour P → Configuration R P → List ProcessStatus
statuses b c = map (status_at b c) (range_with_len 0 b.processes)

-- what process p is doing in a configuration; `None` if the register has no such process
abbrev pub status_of : {R P : Type 0} → Behaviour P → Configuration R P → ℕ → Option ProcessStatus
status_of b c p = if nat_lt p b.processes then Some (status_at b c p) else None

-- the text of an operation: `write` and the value for a write, `read` for a read
abbrev pub op_text : Op → List ℕ
op_text (op.Write v) = codes "write " ++ decimal v
op_text op.Read = codes "read"

-- what a process's line ends with: ` stopped` if the process has stopped, else nothing
abbrev pub stopped_text : Bool → List ℕ
stopped_text stopped = if stopped then codes " stopped" else []

-- the line of a process that has nothing pending; the line says whether the process has stopped
abbrev pub idle_line : ℕ → Bool → List ℕ
idle_line p stopped = codes "  p" ++ decimal p ++ codes " idle" ++ stopped_text stopped ++ line_end

-- the line of a process that has an operation pending and hasn't stopped: the operation, and the
-- operation's next bit action
abbrev pub busy_line : ℕ → Op → Action → List ℕ
busy_line p o a =
    codes "  p" ++ decimal p ++ codes " " ++ op_text o ++ codes " next " ++ kind_name a.kind ++ codes " " ++ decimal a.cell ++ line_end

-- the line of a process that has stopped with an operation pending
abbrev pub stopped_line : ℕ → Op → List ℕ
stopped_line p o = codes "  p" ++ decimal p ++ codes " " ++ op_text o ++ codes " stopped" ++ line_end

-- the line of a process, given its status
abbrev pub status_line : ℕ → ProcessStatus → List ℕ
status_line p (Idle stopped) = idle_line p stopped
status_line p (Busy o a) = busy_line p o a
status_line p (Stopped o) = stopped_line p o

-- the line of process p, which ends in `none` if the register has no such process
abbrev pub process_line : ℕ → Option ProcessStatus → List ℕ
process_line p None = codes "  p" ++ decimal p ++ codes " none" ++ line_end
process_line p (Some s) = status_line p s

-- the page that shows what process p is doing in a configuration
abbrev pub process_page : {R P : Type 0} → Behaviour P → Head → ℕ → Configuration R P → ProcessPage
process_page b head p c = record { head = head; process = p; status = status_of b c p }

-- the text of a page of one process, as the answer to the session with this number
abbrev pub process_text : ℕ → ProcessPage → List ℕ
process_text session page = head_line session (codes "process") page.head ++ process_line page.process page.status
