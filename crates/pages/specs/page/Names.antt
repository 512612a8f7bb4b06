-- The names that pages give to kinds of bit actions, layers, reasons and verdicts.
use Rattle.std.specs.Prelude.{ℕ, List, [], ◌∷◌, ◌++◌, codes, if◌then◌else◌}
use Rattle.std.specs.Char.{is_ascii_alphanumeric}
use Rattle.frames.specs.declared.types.ActionKind.{ActionKind}
use Rattle.frames.specs.declared.types.ActionKind.TheVariants.{WriteStart, WriteEnd, ReadStart, ReadEnd}
use Rattle.frames.specs.declared.types.FrameLayer.{FrameLayer}
use Rattle.frames.specs.declared.types.FrameLayer.TheVariants.{Safe, Copies, Regular, Unary, Stamped, MatrixRead, MatrixWrite, Named}
use Rattle.frames.specs.declared.types.LayerName.{LayerName}
use Rattle.frames.specs.declared.types.Layer.{Layer}
use Rattle.frames.specs.declared.types.Layer.TheVariants as layer
use Rattle.frames.specs.declared.types.Reason.{Reason}
use Rattle.frames.specs.declared.types.Reason.TheVariants as reason
use Rattle.frames.specs.declared.verdict.Verdict.{Verdict}
use Rattle.frames.specs.declared.verdict.Verdict.TheVariants.{Fresh, Overlap, Stray}

-- the short name of a kind of bit action: the start or end of a write or of a read of a bit
abbrev pub kind_name : ActionKind → List ℕ
kind_name WriteStart = codes "ws"
kind_name WriteEnd = codes "we"
kind_name ReadStart = codes "rs"
kind_name ReadEnd = codes "re"

-- a character of a construction's name; only letters and digits are shown
abbrev pub name_character : ℕ → List ℕ
name_character byte = if is_ascii_alphanumeric byte then byte ∷ [] else []

-- the name that a construction gives itself
abbrev pub name_text : LayerName → List ℕ
name_text n = name_character n.0 ++ name_character n.1 ++ name_character n.2

-- the name of a frame's layer; a frame of a matrix has the same name in both phases of an operation
abbrev pub frame_name : FrameLayer → List ℕ
frame_name Safe = codes "safe"
frame_name Copies = codes "copies"
frame_name Regular = codes "regular"
frame_name Unary = codes "unary"
frame_name Stamped = codes "stamped"
frame_name MatrixRead = codes "matrix"
frame_name MatrixWrite = codes "matrix"
frame_name (Named n) = name_text n

-- the name of a layer that refused an operation because the layer's stamps or tags are used up
abbrev pub layer_name : Layer → List ℕ
layer_name layer.Stamped = codes "stamped"
layer_name layer.Matrix = codes "matrix"

-- the word for the reason why a step wasn't enabled
abbrev pub reason_name : Reason → List ℕ
reason_name reason.Busy = codes "busy"
reason_name reason.Idle = codes "idle"
reason_name reason.Stopped = codes "stopped"

-- the name of a verdict
abbrev pub verdict_name : Verdict → List ℕ
verdict_name Fresh = codes "fresh"
verdict_name Overlap = codes "overlap"
verdict_name Stray = codes "stray"
