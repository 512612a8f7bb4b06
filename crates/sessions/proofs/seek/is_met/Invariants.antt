use Rattle.std.proofs.Common.{◌≡◌, drop}
use Rattle.pages.specs.Breaks.{is_met}
use Rattle.sessions.proofs.seek.is_met.Given as goal

abbrev pub invariant-loop-one : goal.invariant-loop-one
invariant-loop-one g l = is_met l.breaks l.events l.config.memory ≡ is_met (drop l.one-index l.breaks) l.events l.config.memory
