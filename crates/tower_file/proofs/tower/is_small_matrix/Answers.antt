use Rattle.std.proofs.Common.{◌≤◌, ◌+◌, arith}
use Rattle.frames.specs.declared.limits.TheConstants.{MOST_VALUES}
use Rattle.std.proofs.Math.Nat.{mul-le-mul}
use Rattle.tower_file.proofs.tower.is_small_matrix.Goals as goal

pub overflow_mul-codes-3 : goal.overflow_mul-codes-3
overflow_mul-codes-3 c =
    let stamps : c.args.last_stamp + 1 ≤ MOST_VALUES = omega arith in
    let tags : c.args.last_tag + 1 ≤ MOST_VALUES = omega arith in
    let codes = mul-le-mul (mul-le-mul (mul-le-mul stamps tags) c.requires.processes) c.requires.values in
    omega (arith, codes)
