use Rattle.std.proofs.Common.{◌<◌, ◌≤◌, length, sym, subst, arith, ◌+◌, ◌-◌, ◌≡◌, take}
use Rattle.branch_terms.specs.Limbs.{own_cell_count}
use Rattle.schedule_trie.proofs.limbs.LimbCounts.{too_many_here, room_left, not_too_many}
use Rattle.schedule_trie.proofs.trie.load.have_more_cells.Goals as goal

pub loop-limb-init : goal.loop-limb-init
loop-limb-init c = record { counted = omega arith }

pub returns-then-room-count : goal.returns-then-room-count
returns-then-room-count c =
    too_many_here c.args.limbs.now c.loop-limb.limb-index c.limb-item.result c.loop-limb-test.true (sym c.limb-item.is) c.loop-limb.room c.args.most c.loop-limb.invariant.counted
    (subst (λ s. c.loop-limb.room < length s) c.as_slice-count.ensures c.if-room-count.true)

pub loop-limb-preserved : goal.loop-limb-preserved
loop-limb-preserved c =
    let ls = c.args.limbs.now in
    let left = c.if-room-count.false in
    let same = c.as_slice-count.ensures in
    record {
      counted = subst (λ s. own_cell_count (take (c.loop-limb.limb-index + 1) ls) + (c.loop-limb.room - length s) ≡ c.args.most) (sym same)
          (room_left ls c.loop-limb.limb-index c.limb-item.result c.loop-limb-test.true (sym c.limb-item.is) c.loop-limb.room c.args.most c.loop-limb.invariant.counted
          (subst (λ s. length s ≤ c.loop-limb.room) same left));
    }

pub returns : goal.returns
returns c = not_too_many c.args.limbs.now c.loop-limb.limb-index c.loop-limb.room c.args.most c.loop-limb-test.false c.loop-limb.invariant.counted
