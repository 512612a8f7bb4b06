use Rattle.std.proofs.Common.{rules, ◌≡◌, true, get_or, arith}
use Rattle.std.specs.Char.{is_ascii_digit}
use Rattle.words.proofs.Digits.{digit_bounds, below_greater_power, digits_with_next, value_with_next, small_with_next}
use Rattle.words.proofs.number.value.Goals as goal

pub overflow_mul-value : goal.overflow_mul-value
overflow_mul-value c =
    let small = below_greater_power c.loop-byte.value c.loop-byte.byte-index c.loop-byte.invariant.small (omega arith) in
    omega (arith, small)

pub overflow_add-value : goal.overflow_add-value
overflow_add-value c =
    let small = below_greater_power c.loop-byte.value c.loop-byte.byte-index c.loop-byte.invariant.small (omega arith) in
    let digit : is_ascii_digit (get_or c.args.word.now c.loop-byte.byte-index 0) ≡ true = search rules in
    let bounds = digit_bounds (get_or c.args.word.now c.loop-byte.byte-index 0) digit in
    omega (arith, small, bounds.1, c.from.ensures)

pub loop-byte-preserved : goal.loop-byte-preserved
loop-byte-preserved c =
    let word = c.args.word.now in
    let i = c.loop-byte.byte-index in
    let digit : is_ascii_digit (get_or word i 0) ≡ true = search rules in
    let bounds = digit_bounds (get_or word i 0) digit in
    record {
      digits = digits_with_next word i c.loop-byte-test.true c.loop-byte.invariant.digits digit;
      so_far = value_with_next word i c.loop-byte.value c.from.result digit c.loop-byte-test.true c.from.ensures c.loop-byte.invariant.so_far;
      small = small_with_next i c.loop-byte.value c.from.result c.loop-byte.invariant.small (omega (arith, bounds.1, c.from.ensures));
    }
