use Rattle.std.proofs.Common.{◌≡◌, drop}
use Rattle.views.specs.Digests.{digest, with_steps}
use Rattle.views.proofs.digest.digest.Given as goal

-- with the remaining steps, the digest so far becomes the digest of all steps
abbrev pub invariant-loop-step : goal.invariant-loop-step
invariant-loop-step l = with_steps l.digest (drop l.step-index l.steps) ≡ digest l.steps
