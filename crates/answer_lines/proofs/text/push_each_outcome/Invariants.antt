use Rattle.std.proofs.Common.{◌≡◌, ◌++◌, take}
use Rattle.std.specs.List.{flat_map}
use Rattle.answer_lines.specs.Text.{outcome_text}
use Rattle.answer_lines.proofs.text.push_each_outcome.Given as goal

abbrev pub invariant-loop-outcome : goal.invariant-loop-outcome
invariant-loop-outcome l = l.out.items ≡ l.fn.out.items ++ flat_map outcome_text (take l.outcome-index l.outcomes)
