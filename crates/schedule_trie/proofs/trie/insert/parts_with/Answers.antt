use Rattle.std.proofs.Common.{◌++◌, ◌-◌, ◌∙◌, length, take, drop, ap, arith, ◌≡◌, ◌<◌, ◌≤◌, ℕ, List}
use Rattle.std.specs.List.{insert}
use Rattle.std.proofs.lemmas.List.{length-take, length-drop, take_all, length-take-le}
use Rattle.std.proofs.lemmas.List.Edits.{length-insert}
use Rattle.schedule_trie.proofs.edits.InsertSteps.{insert-front, insert-back}
use Rattle.schedule_trie.proofs.trie.insert.parts_with.Goals as goal
use Rattle.branch_terms.specs.declared.slot.Slot.{Slot}

pub slice_bounds-front-end : goal.slice_bounds-front-end
slice_bounds-front-end c = omega (arith, length-take 64 c.args.slots.now, c.requires.full)

pub with_slot-requires : goal.with_slot-requires
with_slot-requires c = omega (arith, length-take 64 c.args.slots.now, c.requires.full, c.if-offset-lt-UPPER_SLOTS.true)

pub returns-then-offset-lt-UPPER_SLOTS-clause-parts : goal.returns-then-offset-lt-UPPER_SLOTS-clause-parts
returns-then-offset-lt-UPPER_SLOTS-clause-parts c =
    let slots = c.args.slots.now in
    let back = take_all (length slots - 64) (drop 64 slots) (omega (arith, length-drop 64 slots)) in
    (λ i. c.in_ok-above.ensures i ++ c.in_ok-from_slice.ensures.items i)
    ∙ ap (λ l. insert (take 64 slots) c.args.offset c.args.slot ++ l) back
    ∙ insert-front slots 64 c.args.offset c.args.slot (omega (arith, c.if-offset-lt-UPPER_SLOTS.true))

-- if the first 64 cells get the new one, they are 65
first_len : (slots above : List Slot) (offset : ℕ) (slot : Slot) → 128 ≤ length slots → offset < 64 → above ≡ insert (take 64 slots) offset slot → length above ≡ 65
first_len slots above offset slot full less is =
    let front = length-take-le 64 slots (omega (arith, full)) in
    ap length is ∙ length-insert (take 64 slots) offset slot (omega (arith, front, less)) ∙ omega (arith, front)

pub returns-then-offset-lt-UPPER_SLOTS-clause-least : goal.returns-then-offset-lt-UPPER_SLOTS-clause-least
returns-then-offset-lt-UPPER_SLOTS-clause-least c =
    omega (arith, first_len c.args.slots.now _ c.args.offset c.args.slot c.requires.full c.if-offset-lt-UPPER_SLOTS.true c.in_ok-above.ensures)

pub returns-then-offset-lt-UPPER_SLOTS-clause-most : goal.returns-then-offset-lt-UPPER_SLOTS-clause-most
returns-then-offset-lt-UPPER_SLOTS-clause-most c =
    omega (arith, first_len c.args.slots.now _ c.args.offset c.args.slot c.requires.full c.if-offset-lt-UPPER_SLOTS.true c.in_ok-above.ensures)

pub returns-clause-parts : goal.returns-clause-parts
returns-clause-parts c =
    let slots = c.args.slots.now in
    let back = take_all (length slots - 64) (drop 64 slots) (omega (arith, length-drop 64 slots)) in
    (λ i. c.in_ok-above-2.ensures.items i ++ c.in_ok-with_slot.ensures i)
    ∙ ap (λ l. take 64 slots ++ insert l (c.args.offset - 64) c.args.slot) back
    ∙ insert-back slots 64 c.args.offset c.args.slot (omega (arith, c.requires.full)) (omega (arith, c.if-offset-lt-UPPER_SLOTS.false))

pub returns-clause-least : goal.returns-clause-least
returns-clause-least c = omega (arith, length-take 64 c.args.slots.now, ap length c.in_ok-above-2.ensures.items, c.requires.full)

pub returns-clause-most : goal.returns-clause-most
returns-clause-most c = omega (arith, length-take 64 c.args.slots.now, ap length c.in_ok-above-2.ensures.items, c.requires.full)
