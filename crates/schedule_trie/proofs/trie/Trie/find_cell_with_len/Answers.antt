use Rattle.std.proofs.Common.{◌≤◌, ◌-◌, length, ap, ◌∙◌, arith, subst}
use Rattle.std.specs.Bool.{FalseIff}
use Rattle.schedule_trie.specs.Trie.{segment_at, keys_in, line}
use Rattle.schedule_trie.specs.Climbs.{keys_to}
use Rattle.schedule_trie.proofs.climbs.Climbs.{lies_here, spot_has_cell}
use Rattle.schedule_trie.proofs.climbs.ClimbSteps.{path_last, climb_pass}
use Rattle.schedule_trie.proofs.branches.Lines.{slots_in_on}
use Rattle.schedule_trie.proofs.trie.Trie.find_cell_with_len.Goals as goal

pub loop-up-init : goal.loop-up-init
loop-up-init g c =
    let now = c.args.self.now in
    let l = path_last c.self.inside now c.self.view_is c.self.invariant.held c.args.index c.tip-at.result c.tip-at.ensures in
    let all = ap (λ ks. length (line (segment_at now.segments) ks)) l.all in
    let len = c.requires ∙ ap length (slots_in_on (segment_at now.segments) now.branches c.args.index) in
    record { reached = l.reached; cells = omega (arith, all, len, c.if-len-place.false) }

pub returns-then-is_here-clause-lies : goal.returns-then-is_here-clause-lies
returns-then-is_here-clause-lies g c =
    let now = c.args.self.now in
    let was = c.loop-up.invariant in
    let up = c.in-Some.ensures in
    let len = ap length up.slots in
    let here = subst (λ b. FalseIff b (length c.in-Some.up.1.now ≤ c.loop-up.following)) c.if-is_here.true c.overflowing_sub-left.ensures.overflow in
    let left = c.overflowing_sub-left.ensures.value in
    lies_here (segment_at now.segments) (keys_in now.branches c.args.index) c.loop-up.at c.in-Some.up.0 c.args.place
    (18446744073709551615 - c.overflowing_sub-left.result.0) was.reached up.key
    (omega (arith, len, was.cells, left, here)) (omega (arith, len, left, here))

pub returns-then-is_here-clause-found : goal.returns-then-is_here-clause-found
returns-then-is_here-clause-found g c =
    spot_has_cell (segment_at c.args.self.now.segments) (keys_in c.args.self.now.branches c.args.index) c.args.place
    (c.in-Some.up.0, 18446744073709551615 - c.overflowing_sub-left.result.0) (returns-then-is_here-clause-lies g c)

pub loop-up-smaller : goal.loop-up-smaller
loop-up-smaller g c =
    let up = c.in-Some.ensures in
    (climb_pass c.args.self.now up.whole c.args.index c.loop-up.at c.in-Some.up.0 c.in-Some.up.2 c.loop-up.invariant.reached up.key up.each).fewer

pub loop-up-preserved : goal.loop-up-preserved
loop-up-preserved g c =
    let was = c.loop-up.invariant in
    let up = c.in-Some.ensures in
    let t = climb_pass c.args.self.now up.whole c.args.index c.loop-up.at c.in-Some.up.0 c.in-Some.up.2 was.reached up.key up.each in
    let len = ap length up.slots in
    let above = subst (λ b. FalseIff b (length c.in-Some.up.1.now ≤ c.loop-up.following)) c.if-is_here.false c.overflowing_sub-left.ensures.overflow in
    record { reached = t.step.reached; cells = omega (arith, t.cells, len, was.cells, above, c.overflowing_sub-left.ensures.value) }

pub returns-clause-none : goal.returns-clause-none
returns-clause-none g c =
    let now = c.args.self.now in
    let was = c.loop-up.invariant in
    let none = ap (λ o. length (line (segment_at now.segments) (keys_to (keys_in now.branches c.args.index) o))) (c.in_default.ensures.end c.args.index was.reached) in
    omega (arith, none, was.cells)
