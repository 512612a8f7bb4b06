use Rattle.std.proofs.Common.{◌≡◌, ◌++◌, take}
use Rattle.std.specs.List.{flat_map}
use Rattle.pages.specs.page.Pending.{inner_frame}
use Rattle.pages.proofs.page.pending.push_frames.Given as goal

abbrev pub invariant-loop-frame : goal.invariant-loop-frame
invariant-loop-frame l = l.out.items ≡ l.initial.out.items ++ flat_map inner_frame (take l.frame-index l.inner)
