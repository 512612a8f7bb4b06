use Rattle.std.proofs.Common.{◌+◌, Some, length, sym, ap, ◌∙◌, arith}
use Rattle.std.specs.List.{position}
use Rattle.branch_terms.specs.Forest.{is_cell}
use Rattle.schedule_trie.specs.Trie.{segment_at, keys_in, line}
use Rattle.schedule_trie.specs.Climbs.{keys_to}
use Rattle.schedule_trie.proofs.climbs.Climbs.{cells_within, place_up, place_above}
use Rattle.schedule_trie.proofs.climbs.ClimbSteps.{path_last, branch_once, branch_short, climb_pass}
use Rattle.schedule_trie.proofs.branches.Lines.{slots_in_on}
use Rattle.schedule_trie.proofs.lists.Searches.{position-within}
use Rattle.schedule_trie.proofs.trie.Trie.place_at.Goals as goal

pub loop-up-init : goal.loop-up-init
loop-up-init g c =
    let now = c.args.self.now in
    let l = path_last c.self.inside now c.self.view_is c.self.invariant.held c.args.index c.tip-at.result c.tip-at.ensures in
    record { reached = l.reached; same = ap (λ ks. position (is_cell c.args.cell) (line (segment_at now.segments) ks)) l.all }

pub len_to-requires : goal.len_to-requires
len_to-requires g c =
    let t = climb_pass c.args.self.now c.in-Some.ensures.whole c.args.index c.loop-up.at c.in-Some.up.0 c.in-Some.up.2 c.loop-up.invariant.reached c.in-Some.ensures.key
    c.in-Some.ensures.each in
    t.step.reached

pub overflow_add-result : goal.overflow_add-result
overflow_add-result g c =
    let now = c.args.self.now in
    let keys = keys_in now.branches c.args.index in
    let t = climb_pass c.args.self.now c.in-Some.ensures.whole c.args.index c.loop-up.at c.in-Some.up.0 c.in-Some.up.2 c.loop-up.invariant.reached c.in-Some.ensures.key
    c.in-Some.ensures.each in
    let inside = position-within (is_cell c.args.cell) c.in-Some.up.1.now c.in-Some-offset_of.offset c.in-Some-offset_of.ensures in
    let len = ap length c.in-Some.ensures.slots in
    let within = cells_within (segment_at now.segments) keys c.loop-up.at c.loop-up.invariant.reached in
    let short = branch_short now c.in-Some.ensures.whole c.args.index in
    omega (arith, t.cells, inside, len, within, short, c.len_to.ensures)

pub returns-in-Some-offset_of : goal.returns-in-Some-offset_of
returns-in-Some-offset_of g c =
    let now = c.args.self.now in
    let keys = keys_in now.branches c.args.index in
    let sound = c.in-Some.ensures.whole.sound in
    let t = climb_pass c.args.self.now c.in-Some.ensures.whole c.args.index c.loop-up.at c.in-Some.up.0 c.in-Some.up.2 c.loop-up.invariant.reached c.in-Some.ensures.key
    c.in-Some.ensures.each in
    let here = place_up (segment_at now.segments) c.args.cell keys c.in-Some.up.0 c.in-Some.up.2 t.step sound.apart
    (branch_once now c.in-Some.ensures.whole c.args.index) c.in-Some-offset_of.offset
    (c.in-Some-offset_of.ensures ∙ ap (position (is_cell c.args.cell)) c.in-Some.ensures.slots) in
    ap (λ n. Some (n + c.in-Some-offset_of.offset)) c.len_to.ensures ∙ sym here
    ∙ ap (λ o. position (is_cell c.args.cell) (line (segment_at now.segments) (keys_to keys o))) (sym c.in-Some.ensures.key) ∙ c.loop-up.invariant.same
    ∙ ap (position (is_cell c.args.cell)) (sym (slots_in_on (segment_at now.segments) now.branches c.args.index))

pub loop-up-smaller : goal.loop-up-smaller
loop-up-smaller g c =
    let t = climb_pass c.args.self.now c.in-Some.ensures.whole c.args.index c.loop-up.at c.in-Some.up.0 c.in-Some.up.2 c.loop-up.invariant.reached c.in-Some.ensures.key
    c.in-Some.ensures.each in
    t.fewer

pub loop-up-preserved : goal.loop-up-preserved
loop-up-preserved g c =
    let now = c.args.self.now in
    let keys = keys_in now.branches c.args.index in
    let t = climb_pass c.args.self.now c.in-Some.ensures.whole c.args.index c.loop-up.at c.in-Some.up.0 c.in-Some.up.2 c.loop-up.invariant.reached c.in-Some.ensures.key
    c.in-Some.ensures.each in
    let sound = c.in-Some.ensures.whole.sound in
    record {
      reached = t.step.reached;
      same = sym (place_above (segment_at now.segments) c.args.cell keys c.in-Some.up.0 c.in-Some.up.2 t.step sound.apart
          (branch_once now c.in-Some.ensures.whole c.args.index)
          (c.in_default-offset_of.ensures ∙ ap (position (is_cell c.args.cell)) c.in-Some.ensures.slots))
          ∙ ap (λ o. position (is_cell c.args.cell) (line (segment_at now.segments) (keys_to keys o))) (sym c.in-Some.ensures.key) ∙ c.loop-up.invariant.same;
    }

pub returns : goal.returns
returns g c =
    let now = c.args.self.now in
    let keys = keys_in now.branches c.args.index in
    ap (λ o. position (is_cell c.args.cell) (line (segment_at now.segments) (keys_to keys o))) (sym (c.in_default.ensures.end c.args.index c.loop-up.invariant.reached)) ∙ c.loop-up.invariant.same
    ∙ ap (position (is_cell c.args.cell)) (sym (slots_in_on (segment_at now.segments) now.branches c.args.index))
