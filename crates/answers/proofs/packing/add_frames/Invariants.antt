use Rattle.std.proofs.Common.{◌≡◌, ◌++◌, drop}
use Rattle.answers.specs.Packing.{packed, frames_numbers}
use Rattle.answers.proofs.packing.add_frames.Given as goal

abbrev pub invariant-loop-frame : goal.invariant-loop-frame
invariant-loop-frame l = l.bytes.items ++ packed (frames_numbers (drop l.frame-index l.frames)) ≡ l.initial.bytes.items ++ packed (frames_numbers l.frames)
