use Rattle.std.proofs.Common.{◌≡◌, drop}
use Rattle.frames.specs.Configuration.{replayed}
use Rattle.views.proofs.spot.make_steps.Given as goal

-- the remaining steps complete the replay
abbrev pub invariant-loop-step : goal.invariant-loop-step
invariant-loop-step g l =
    let b = g.R.Behaves.behaviour l.initial.config.register in
    record {
      register : l.config.register ≡ l.initial.config.register;
      config : replayed b l.config (drop l.step-index l.steps) ≡ replayed b l.initial.config l.steps;
    }
