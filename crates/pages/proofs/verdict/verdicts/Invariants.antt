use Rattle.std.proofs.Common.{◌≡◌, ◌++◌, drop}
use Rattle.frames.specs.correctness.Verdicts.{accepted, verdicts_from, verdicts}
use Rattle.pages.proofs.verdict.verdicts.Given as goal

-- the verdicts so far, and then those on the remaining events, are all verdicts
abbrev pub invariant-loop-place : goal.invariant-loop-place
invariant-loop-place l = l.all.items ++ verdicts_from l.known (accepted (drop l.place l.events)) ≡ verdicts l.fn.value l.events
