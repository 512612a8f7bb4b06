use Rattle.std.proofs.Common.{◌≡◌, ◌<◌, length, Some, None, sym, subst, slice_index_or, refl}
use Rattle.schedule_trie.specs.Trie.{keys_in, segment_at}
use Rattle.schedule_trie.specs.Climbs.{keys_to, HasClimbedTo}
use Rattle.schedule_trie.specs.Marks.{IsMarkOf}
use Rattle.schedule_trie.proofs.climbs.Climbs.{shorter_up}
use Rattle.schedule_trie.proofs.climbs.ClimbSteps.{path_last, path_up}
use Rattle.schedule_trie.proofs.limbs.OwnParts.{climbing_first, climbing_up, own_part, IsUnmarked}
use Rattle.schedule_trie.proofs.trie.Trie.own_keys.Goals as goal

pub loop-at-init : goal.loop-at-init
loop-at-init g c =
    let l = path_last c.self.inside c.args.self.now c.self.view_is c.self.invariant.held c.args.index c.last-at.result c.last-at.ensures in
    let keys = keys_in c.args.self.now.branches c.args.index in
    rw c.new-own.ensures.items (record { climbing = climbing_first (IsUnmarked c.args.marks.now) keys c.last-at.result l })

pub returns-in-Some-marks-clause-own : goal.returns-in-Some-marks-clause-own
returns-in-Some-marks-clause-own g c =
    let marks = c.args.marks.now in
    let keys = keys_in c.args.self.now.branches c.args.index in
    let at = c.loop-at.invariant.climbing in
    let read : slice_index_or marks c.in-Some.key None ≡ Some c.in-Some-marks.mark = c.in-Some-marks.is in
    own_part marks keys c.loop-at.at c.loop-at.own.items c.reverse.new.self.items c.in-Some-marks.mark at
    (subst (λ o. IsMarkOf marks o c.in-Some-marks.mark) (sym c.in-Some.is) read) c.reverse.ensures.items

pub loop-at-smaller : goal.loop-at-smaller
loop-at-smaller g c =
    let keys = keys_in c.args.self.now.branches c.args.index in
    let s = path_up c.self.inside c.args.self.now c.self.view_is c.self.invariant.held c.args.index c.in-Some.key c.above-at.result
    (subst (HasClimbedTo keys) c.in-Some.is c.loop-at.invariant.climbing.reached) c.above-at.ensures.each in
    subst (λ o. length (keys_to keys c.above-at.result) < length (keys_to keys o)) (sym c.in-Some.is)
    (shorter_up (segment_at c.args.self.now.segments) keys c.in-Some.key c.above-at.result s)

pub loop-at-preserved : goal.loop-at-preserved
loop-at-preserved g c =
    let marks = c.args.marks.now in
    let keys = keys_in c.args.self.now.branches c.args.index in
    let at = c.loop-at.invariant.climbing in
    let s = path_up c.self.inside c.args.self.now c.self.view_is c.self.invariant.held c.args.index c.in-Some.key c.above-at.result
    (subst (HasClimbedTo keys) c.in-Some.is at.reached) c.above-at.ensures.each in
    let read : slice_index_or marks c.in-Some.key None ≡ None = c.in_default-marks.is in
    record { climbing = climbing_up (IsUnmarked marks) keys c.loop-at.at c.in-Some.key c.above-at.result c.loop-at.own.items c.push.new.self.items c.in-Some.is c.in_ok-push.ensures.items at s read }

pub returns-clause-own : goal.returns-clause-own
returns-clause-own g c =
    let marks = c.args.marks.now in
    let keys = keys_in c.args.self.now.branches c.args.index in
    own_part marks keys c.loop-at.at c.loop-at.own.items c.reverse-2.new.self.items _ c.loop-at.invariant.climbing
    (subst (λ o. IsMarkOf marks o _) (sym c.in_default.is) refl) c.reverse-2.ensures.items
