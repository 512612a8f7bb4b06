use Rattle.std.proofs.Common.{◌≡◌, ◌++◌, drop, map}
use Rattle.answers.specs.Packing.{packed, outcome_code, outcomes_numbers}
use Rattle.answers.proofs.packing.add_outcomes.Given as goal

abbrev pub invariant-loop-outcome : goal.invariant-loop-outcome
invariant-loop-outcome l = l.bytes.items ++ packed (map outcome_code (drop l.outcome-index l.outcomes)) ≡ l.fn.bytes.items ++ packed (outcomes_numbers l.outcomes)
