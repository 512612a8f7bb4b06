use Rattle.std.proofs.Common.{◌≡◌, ℕ, ◌+◌, Bool, List, ◌∷◌, length, length-drop, take, drop, Some, sym, ap, refl, ◌∙◌, arith, add-zero}
use Rattle.safe_bit.specs.laws.Parts.{cell_at-part}
use Rattle.safe_bit.specs.Memory.{Memory, cell_at, on_cell}
use Rattle.safe_bit.specs.Parts.{part, LiesIn}
use Rattle.safe_bit.specs.declared.Place.{Place}
use Rattle.safe_bit.specs.Actions.{start_write, end_write, start_read, end_read, read_gives}
use Rattle.frames.specs.declared.types.Outcome.TheVariants.{Value, Written}
use Rattle.frames.specs.declared.types.Next.TheVariants.{Done}
use Rattle.frames.specs.declared.safe.SafePoint.TheVariants as at
use Rattle.frames.specs.SafeBit.{value_of, safe_behaviour, SafeReaches, safe_goes, point_at}
use mir.Val.{bool_byte}
use Rattle.schedule_steps.specs.declared.types.Op.{Op}
use Rattle.frames.specs.declared.types.Frame.{Frame}
use Rattle.frames.specs.declared.safe.SafePoint.{SafePoint}
use Rattle.frames.specs.Flat.{HasFramesFrom, Lands}
use Rattle.frames.specs.laws.Safe.{on_own_cell, safe_size, byte_value, frame_replaced, frame_dropped}
use Rattle.frames.proofs.safe.SafeRegister.go_on.Goals as goal

pub returns-in-WriteStart-clause-lands : goal.returns-in-WriteStart-clause-lands
returns-in-WriteStart-clause-lands c =
    let there = frame_replaced c.args.at c.args.store.now c.args._who c.args.first c.args.stack.now c.args.choice c.frame-frame.result (at.WriteStart c.in-WriteStart.bit)
    c.frame-frame.ensures (sym c.in-WriteStart.is ∙ c.point_of.ensures) (at.WriteEnd c.in-WriteStart.bit) c.start_write.new.self refl
    (c.start_write.ensures ∙ on_own_cell c.args.at (start_write c.in-WriteStart.bit) c.args.store.now c.requires.inside) in
    rw (c.set.ensures, c.frame_of.ensures) there

pub returns-in-WriteEnd-clause-lands : goal.returns-in-WriteEnd-clause-lands
returns-in-WriteEnd-clause-lands c =
    let there = frame_dropped c.args.at c.args.store.now c.args._who c.args.first c.args.stack.now c.args.choice c.frame-frame.result (at.WriteEnd c.in-WriteEnd.field-0)
    c.frame-frame.ensures (sym c.in-WriteEnd.is ∙ c.point_of.ensures) Written c.end_write.new.self refl
    (c.end_write.ensures ∙ on_own_cell c.args.at end_write c.args.store.now c.requires.inside) in
    rw c.truncate.ensures there

pub returns-in-ReadStart-clause-lands : goal.returns-in-ReadStart-clause-lands
returns-in-ReadStart-clause-lands c =
    let there = frame_replaced c.args.at c.args.store.now c.args._who c.args.first c.args.stack.now c.args.choice c.frame-frame.result at.ReadStart
    c.frame-frame.ensures (sym c.in-ReadStart.is ∙ c.point_of.ensures) at.ReadEnd c.start_read.new.self refl
    (c.start_read.ensures ∙ on_own_cell c.args.at start_read c.args.store.now c.requires.inside) in
    rw (c.set-in-ReadStart.ensures, c.frame_of-in-ReadStart.ensures) there

-- a read has ended with the value that its action gave
read_ended : (place : Place) (m : Memory) (who first : ℕ) (stack : List Frame) (choice : Bool) (frame : Frame) (found : drop first stack ≡ frame ∷ drop (first + 1) stack)
    (is : at.ReadEnd ≡ point_at frame.op frame.i) (gave : Bool) (value : ℕ) (m' : Memory) → gave ≡ read_gives choice (cell_at place.cell m) → value ≡ bool_byte gave
    → m' ≡ on_cell place.cell end_read m → LiesIn place safe_size m
    → (o : Op) (p : SafePoint) → HasFramesFrom safe_behaviour.frames SafeReaches who first stack o p
    → Lands safe_behaviour.frames place (safe_goes p choice (part place safe_size m)).next (safe_goes p choice (part place safe_size m)).memory (take first stack) m (Some (Value value)) (take first stack) m'
read_ended place m who first stack choice frame found is gave value m' value_is byte after inside =
    let given : value_of (read_gives choice (cell_at 0 (part place safe_size m))) ≡ value =
    ap value_of (ap (read_gives choice) (cell_at-part place safe_size 0 m (omega arith) ∙ ap (λ i. cell_at i m) (add-zero place.cell)) ∙ sym value_is) ∙ sym (byte ∙ byte_value gave) in
    frame_dropped place m who first stack choice frame at.ReadEnd found is (Value value) m' (ap (λ v. Done (Value v)) given) (after ∙ on_own_cell place end_read m inside)

pub returns-then-hit-clause-lands : goal.returns-then-hit-clause-lands
returns-then-hit-clause-lands c =
    rw c.truncate-in-ReadEnd.ensures
    (read_ended c.args.at c.args.store.now c.args._who c.args.first c.args.stack.now c.args.choice c.frame-frame.result c.frame-frame.ensures (sym c.in-ReadEnd.is ∙ c.point_of.ensures)
    c.end_read-value.result c.from.result c.end_read-value.new.self c.end_read-value.ensures.value c.from.ensures c.end_read-value.ensures.after c.requires.inside)

pub returns-else-hit-clause-lands : goal.returns-else-hit-clause-lands
returns-else-hit-clause-lands c =
    rw c.truncate-in-ReadEnd.ensures
    (read_ended c.args.at c.args.store.now c.args._who c.args.first c.args.stack.now c.args.choice c.frame-frame.result c.frame-frame.ensures (sym c.in-ReadEnd.is ∙ c.point_of.ensures)
    c.end_read-value.result c.from.result c.end_read-value.new.self c.end_read-value.ensures.value c.from.ensures c.end_read-value.ensures.after c.requires.inside)

pub set-requires : goal.set-requires
set-requires c = omega (arith, ap length c.frame-frame.ensures, length-drop c.args.first c.args.stack.now)

pub set-requires-in-ReadStart : goal.set-requires-in-ReadStart
set-requires-in-ReadStart c = omega (arith, ap length c.frame-frame.ensures, length-drop c.args.first c.args.stack.now)

pub truncate-requires : goal.truncate-requires
truncate-requires c = omega (arith, ap length c.frame-frame.ensures, length-drop c.args.first c.args.stack.now)

pub truncate-requires-in-ReadEnd : goal.truncate-requires-in-ReadEnd
truncate-requires-in-ReadEnd c = omega (arith, ap length c.frame-frame.ensures, length-drop c.args.first c.args.stack.now)

pub frame-frame-requires : goal.frame-frame-requires
frame-frame-requires c = omega (arith, ap length c.requires.may_be_at.1.1.there, length-drop c.args.first c.args.stack.now)
