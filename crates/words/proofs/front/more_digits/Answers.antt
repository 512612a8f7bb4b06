use Rattle.std.proofs.Common.{rules, ◌≡◌, ◌∷◌, true, arith}
use Rattle.std.specs.Char.{is_ascii_digit}
use Rattle.words.proofs.Fronts.{one_more_digit, one_more_digit_short}
use Rattle.words.proofs.front.more_digits.Goals as goal

pub loop-value-preserved : goal.loop-value-preserved
loop-value-preserved c =
    let digit : is_ascii_digit c.in-Some.digit.now ≡ true = search rules in
    let left : c.loop-value.left.now ≡ c.in-Some.digit.now ∷ c.in-Some.following.now = search rules in
    record {
      some = omega (arith, c.loop-value.invariant.some);
      short = one_more_digit_short c.loop-value.value c.from.result c.in-Some.digit.now c.loop-value-test.true digit c.from.ensures;
      front = one_more_digit c.args.first c.loop-value.value c.from.result c.in-Some.digit.now c.args.text.now c.loop-value.left.now c.in-Some.following.now
          c.loop-value.invariant.some c.loop-value-test.true digit c.from.ensures left c.loop-value.invariant.front;
    }
