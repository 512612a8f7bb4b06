use Rattle.std.proofs.Common.{ℕ, List, ◌++◌, length, map, refl, ap, ◌∙◌, append_assoc}
use Rattle.answers.specs.Packing.{number_bytes, packed, outcome_code, outcomes_numbers}
use Rattle.answers.proofs.PackedSoFar.{packed_all}
use Rattle.answers.proofs.packing.add_outcomes.Goals as goal

pub loop-outcome-init : goal.loop-outcome-init
loop-outcome-init c =
    ap (λ (l : List ℕ). l ++ packed (map outcome_code c.args.outcomes.now)) c.in_ok-add_number.ensures
    ∙ append_assoc c.args.bytes.now.items (number_bytes (length c.args.outcomes.now)) (packed (map outcome_code c.args.outcomes.now))

pub returns : goal.returns
returns c =
    packed_all (λ l. packed (map outcome_code l)) refl c.args.outcomes.now c.loop-outcome.outcome-index
    c.loop-outcome.bytes.items (c.args.bytes.now.items ++ packed (outcomes_numbers c.args.outcomes.now)) c.loop-outcome.invariant c.loop-outcome-test.false
