use Rattle.std.proofs.Common.{◌-◌, ◌≡◌, ◌<◌, ◌^◌, ◌++◌, decimal}
use Rattle.words.proofs.front.more_digits.Given as goal

abbrev pub invariant-loop-value : goal.invariant-loop-value
invariant-loop-value l = record {
  some : 0 < l.value;
  short : l.value < 10 ^ 9;
  front : decimal l.first ++ l.text ≡ decimal l.value ++ l.left;
}

abbrev pub decreases-loop-value : goal.decreases-loop-value
decreases-loop-value l = 100000000 - l.value
