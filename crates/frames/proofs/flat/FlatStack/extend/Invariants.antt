use Rattle.std.proofs.Common.{◌≡◌, ◌++◌, take}
use Rattle.frames.proofs.flat.FlatStack.extend.Given as goal

abbrev pub invariant-loop-frame : goal.invariant-loop-frame
invariant-loop-frame l = l.self ≡ l.initial.self ++ take l.frame-index l.frames
