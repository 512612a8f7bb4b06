-- The page that shows each pending operation as frames, one for each of its layers.
use Rattle.std.specs.Prelude.{ℕ, Bool, List, [], ◌∷◌, ◌++◌, Option, Some, None, codes, map}
use Rattle.std.specs.List.{flat_map, range_with_len}
use Rattle.std.specs.Fmt.{decimal}
use Rattle.frames.specs.declared.types.Op.{Op}
use Rattle.frames.specs.declared.types.Op.TheVariants as op
use Rattle.frames.specs.declared.types.Frame.{Frame}
use Rattle.frames.specs.declared.types.FrameLayer.{FrameLayer}
use Rattle.frames.specs.declared.types.FrameLayer.TheVariants.{Safe, Copies, Regular, Unary, Stamped, MatrixRead, MatrixWrite, Named}
use Rattle.frames.specs.declared.running.Running.{Running}
use Rattle.frames.specs.Behaviour.{Behaviour}
use Rattle.frames.specs.Configuration.{Configuration, running_at, is_stopped}
use Rattle.pages.specs.declared.page.pending.PendingStatus.{PendingStatus}
use Rattle.pages.specs.Lines.{numbered_lines}
use Rattle.pages.specs.declared.page.head.Head.{Head}
use Rattle.pages.specs.declared.page.pending.PendingPage.{PendingPage}
use Rattle.pages.specs.page.Head.{line_end, head_line}
use Rattle.pages.specs.page.Memory.{after_space}
use Rattle.pages.specs.page.Names.{frame_name}
use Rattle.pages.specs.page.Process.{stopped_text, idle_line}

-- the frames of a pending operation, outermost first; `None` if nothing is pending
abbrev pub frames_of : {P : Type 0} → Behaviour P → Option (Running P) → Option (List Frame)
frames_of b None = None
frames_of b (Some r) = Some (b.frames r.point)

-- what process p has pending, as frames, and whether the process has stopped
abbrev pub pending_status_at : {R P : Type 0} → Behaviour P → Configuration R P → ℕ → PendingStatus
pending_status_at b c p = record { frames = frames_of b (running_at p c); stopped = is_stopped p c }

-- what each process has pending, and whether it has stopped, in the order of the processes
abbrev pub pending_statuses : {R P : Type 0} → Behaviour P → Configuration R P → List PendingStatus
pending_statuses b c = map (pending_status_at b c) (range_with_len 0 b.processes)

-- the short text of an operation: `w` and the number `written` for a write, `r` for a read
abbrev pub short_op : Op → ℕ → List ℕ
short_op (op.Write v) written = codes "w " ++ decimal written
short_op op.Read written = codes "r"

-- The text of a frame's operation. The text of a write has a number: the code x, which has its
-- stamp and its value, if the layer is Stamped, else the write's value.
abbrev pub frame_op : FrameLayer → Op → ℕ → List ℕ
frame_op Stamped (op.Write v) x = short_op (op.Write v) x
frame_op Stamped op.Read x = short_op op.Read 0
frame_op layer (op.Write v) x = short_op (op.Write v) v
frame_op layer op.Read x = short_op op.Read 0

-- What follows the operation in a frame's text. Safe bit: how many bit actions the operation has
-- made; copies: the reader whose copy is in use; unary number: the bit in use; matrix: the phase,
-- the part in use, and the greatest code read so far or the one being written; a construction that
-- names itself: both of its numbers; the other layers: nothing.
abbrev pub frame_rest : FrameLayer → ℕ → ℕ → List ℕ
frame_rest Safe i x = after_space i
frame_rest Copies i x = after_space i
frame_rest Regular i x = []
frame_rest Unary i x = after_space i
frame_rest Stamped i x = []
frame_rest MatrixRead i x = codes " read" ++ after_space i ++ after_space x
frame_rest MatrixWrite i x = codes " write" ++ after_space i ++ after_space x
frame_rest (Named n) i x = after_space i ++ after_space x

-- the text of a frame: its layer, its operation, and what `frame_rest` gives for the layer
abbrev pub frame_text : Frame → List ℕ
frame_text f = frame_name f.layer ++ codes " " ++ frame_op f.layer f.op f.x ++ frame_rest f.layer f.i f.x

-- the text of a frame that isn't the outermost, after ` > `
abbrev pub inner_frame : Frame → List ℕ
inner_frame f = codes " > " ++ frame_text f

-- the text of frames, outermost first, with ` > ` between them
abbrev pub frames_text : List Frame → List ℕ
frames_text [] = []
frames_text (f ∷ fs) = frame_text f ++ flat_map inner_frame fs

-- the line of a process with an operation pending: its frames, and whether it has stopped
abbrev pub frames_line : ℕ → List Frame → Bool → List ℕ
frames_line p fs stopped = codes "  p" ++ decimal p ++ codes " " ++ frames_text fs ++ stopped_text stopped ++ line_end

-- the line of a process, given the frames of its pending operation (`None` if nothing is pending),
-- and whether the process has stopped
abbrev pub frames_or_idle_line : ℕ → Option (List Frame) → Bool → List ℕ
frames_or_idle_line p None stopped = idle_line p stopped
frames_or_idle_line p (Some fs) stopped = frames_line p fs stopped

-- the line of process p, given what it has pending and whether it has stopped
abbrev pub pending_status_line : ℕ → PendingStatus → List ℕ
pending_status_line p s = frames_or_idle_line p s.frames s.stopped

-- a line for each process, numbered from 0
abbrev pub pending_status_lines : List PendingStatus → List ℕ
pending_status_lines statuses = numbered_lines pending_status_line 0 statuses

-- the page that shows what each process has pending in a configuration
abbrev pub pending_page : {R P : Type 0} → Behaviour P → Head → Configuration R P → PendingPage
pending_page b head c = record { head = head; processes = pending_statuses b c }

-- the text of a page of pending operations, as the answer to the session with this number
abbrev pub pending_text : ℕ → PendingPage → List ℕ
pending_text session page = head_line session (codes "pending") page.head ++ pending_status_lines page.processes
