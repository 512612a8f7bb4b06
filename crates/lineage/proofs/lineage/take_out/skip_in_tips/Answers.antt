use Rattle.std.proofs.Common.{arith}
use Rattle.lineage.proofs.SkippedClimbs.{all_past}
use Rattle.lineage.proofs.lineage.take_out.skip_in_tips.Goals as goal

pub returns : goal.returns
returns c =
    let end = c.len-place-end.ensures in
    let many = c.args.tips.now.ok.0 in
    let stop = c.loop-place-test.false in
    all_past c.args.key c.args.above c.args.tips.now.items c.loop-place.tips.items c.loop-place.invariant.many
    (λ k lt. c.loop-place.invariant.done k (omega (arith, lt, end, many, stop)))
