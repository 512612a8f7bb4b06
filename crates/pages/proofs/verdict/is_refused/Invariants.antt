use Rattle.std.proofs.Common.{◌≡◌, drop}
use Rattle.frames.specs.correctness.Verdicts.{is_refused}
use Rattle.pages.proofs.verdict.is_refused.Given as goal

-- the events so far don't decide whether the write is refused; the remaining ones do
abbrev pub invariant-loop-index : goal.invariant-loop-index
invariant-loop-index l = is_refused (drop l.index l.events) ≡ is_refused l.events
