-- How a layer's pending operation is kept on a flat stack, one list of frames: the layer's own
-- frame comes first, and the frames of the part at work follow it.
use Rattle.std.specs.Prelude.{◌≡◌, ◌≢◌, ℕ, List, [], ◌∷◌, take, Option, Some, None}
use Rattle.std.specs.Option.{option_map}
use Rattle.frames.specs.declared.types.Op.{Op}
use Rattle.frames.specs.declared.types.Frame.{Frame}
use Rattle.frames.specs.declared.types.Outcome.{Outcome}
use Rattle.frames.specs.Behaviour.{Behaviour}
use Rattle.layers.specs.declared.nested.Nested.{Nested}
use Rattle.layers.specs.Nested.{Table}

-- the frames of an operation of the layer, if it is in this task and the task's part is at point p
abbrev pub task_frames : {Task P : Type 0} → Table Task → Behaviour P → Task → P → List Frame
task_frames t b task p = t.frame task ∷ b.frames p

-- the last argument is the task that has this frame and that process `who` can be in; it is `None`
-- if there is no such task
abbrev pub IsTaskByFrame : {Task : Type 0} → Table Task → (ℕ → Op → Task → Type 0) → ℕ → Frame → Option Task → Type 0
IsTaskByFrame t MayBeAt who frame (Some task) = MayBeAt who frame.op task × (t.frame task ≡ frame)
IsTaskByFrame {Task} t MayBeAt who frame None = (o : Op) (task : Task) → MayBeAt who o task → t.frame task ≢ frame

-- The point of the layer's operation that a list of frames describes: the first frame gives the
-- task, and `find` gives the part's point from the other frames. `None` if there is no frame, or if
-- `find` gives `None`.
abbrev pub layered_point : {Task P : Type 0} → Table Task → (ℕ → List Frame → Option P) → ℕ → List Frame → Option (Nested Task P)
layered_point t find who [] = None
layered_point t find who (frame ∷ rest) = option_map (λ p. record { task = t.find who frame; below = p }) (find (t.asks (t.find who frame)).who rest)

-- the stack that is kept after a part's step: if the part's operation has ended with an outcome,
-- only the frames before index `first`; otherwise all frames
abbrev pub cut_if_ended : ℕ → Option Outcome → List Frame → List Frame
cut_if_ended first None stack = stack
cut_if_ended first (Some outcome) stack = take first stack
