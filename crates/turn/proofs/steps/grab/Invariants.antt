use Rattle.std.proofs.Common.{◌≡◌}
use Rattle.turn.specs.Rule.{IsSameAccess}
use Rattle.turn.proofs.steps.grab.Given as goal

abbrev pub invariant-loop : goal.invariant-loop
invariant-loop g l = IsSameAccess l.initial.access l.access × (l.access.me ≡ l.initial.access.me)
