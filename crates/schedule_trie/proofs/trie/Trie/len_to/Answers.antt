use Rattle.std.proofs.Common.{length, ap, arith}
use Rattle.schedule_trie.specs.Trie.{segment_at, keys_in, line}
use Rattle.schedule_trie.specs.Climbs.{keys_to}
use Rattle.schedule_trie.proofs.climbs.Climbs.{cells_own, cells_within}
use Rattle.schedule_trie.proofs.climbs.ClimbSteps.{branch_short, climb_pass}
use Rattle.schedule_trie.proofs.trie.Trie.len_to.Goals as goal

pub overflow_cast-len : goal.overflow_cast-len
overflow_cast-len g c =
    let now = c.args.self.now in
    let keys = keys_in now.branches c.args.index in
    let up = c.in-Some.ensures in
    let own = cells_own (segment_at now.segments) keys c.loop-up.at c.in-Some.up.0 c.loop-up.invariant.reached up.key in
    let len = ap length up.slots in
    let within = cells_within (segment_at now.segments) keys c.loop-up.at c.loop-up.invariant.reached in
    let short = branch_short now up.whole c.args.index in
    omega (arith, own, len, within, short)

pub overflow_add-len : goal.overflow_add-len
overflow_add-len g c =
    let now = c.args.self.now in
    let keys = keys_in now.branches c.args.index in
    let was = c.loop-up.invariant in
    let up = c.in-Some.ensures in
    let own = cells_own (segment_at now.segments) keys c.loop-up.at c.in-Some.up.0 was.reached up.key in
    let len = ap length up.slots in
    let within = cells_within (segment_at now.segments) keys c.args.last c.requires in
    let short = branch_short now up.whole c.args.index in
    omega (arith, own, len, within, short, was.sum)

pub loop-up-smaller : goal.loop-up-smaller
loop-up-smaller g c =
    (climb_pass c.args.self.now c.in-Some.ensures.whole c.args.index c.loop-up.at c.in-Some.up.0 c.in-Some.up.2 c.loop-up.invariant.reached c.in-Some.ensures.key c.in-Some.ensures.each).fewer

pub loop-up-preserved : goal.loop-up-preserved
loop-up-preserved g c =
    let up = c.in-Some.ensures in
    let t = climb_pass c.args.self.now up.whole c.args.index c.loop-up.at c.in-Some.up.0 c.in-Some.up.2 c.loop-up.invariant.reached up.key up.each in
    let len = ap length up.slots in
    record { reached = t.step.reached; sum = omega (arith, t.cells, len, c.loop-up.invariant.sum) }

pub returns : goal.returns
returns g c =
    let now = c.args.self.now in
    let was = c.loop-up.invariant in
    let none = ap (λ o. length (line (segment_at now.segments) (keys_to (keys_in now.branches c.args.index) o))) (c.in_default.ensures.end c.args.index was.reached) in
    omega (arith, none, was.sum)
