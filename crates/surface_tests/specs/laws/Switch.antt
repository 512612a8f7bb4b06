-- The laws of a bit whose write and read are one action each; and what its methods need of memory
-- and of frames.
use Rattle.std.proofs.Common.{◌≡◌, ℕ, ◌+◌, ◌-◌, ◌<◌, Bool, true, false, List, [], ◌∷◌, length, drop, Some, None, refl, ap, ◌∙◌, arith, add-zero, length-drop}
use Rattle.std.specs.Prelude.{◌≢◌, ⊤}
use Rattle.std.specs.Option.{MatchOption}
use Rattle.std.proofs.lemmas.List.{nil_from_length}
use Rattle.safe_bit.specs.declared.Place.{Place}
use Rattle.safe_bit.specs.Memory.{Memory, cell_at}
use Rattle.safe_bit.specs.Parts.{HasSize, part}
use Rattle.safe_bit.specs.laws.Parts.{cell_at-part}
use Rattle.frames.specs.declared.types.Op.{Op}
use Rattle.frames.specs.declared.types.Op.TheVariants as op
use Rattle.frames.specs.declared.types.Frame.{Frame}
use Rattle.frames.specs.Behaviour.{IsLawful, GoesOn}
use Rattle.frames.specs.Flat.{FramesGivePoint, IsPointByFrames}
use Rattle.frames.specs.OneWriter.{one_writer}
use Rattle.frames.specs.SafeBit.{value_of}
use Rattle.frames.specs.laws.OneWriter as writer
use Rattle.surface_tests.specs.Switch.{switch_size, switch_goes, switch_frame, switch_acts, switch_point, switch, SwitchReaches}

-- a bit's number is below 2
value_below : (b : Bool) → value_of b < 2
value_below false = omega arith
value_below true = omega arith

-- a pending operation goes on as `IsLawful` asks: it ends
goes_well : (who : ℕ) (o p : Op) (choice : Bool) (m : Memory) → HasSize switch_size m → SwitchReaches who o p
    → GoesOn switch (HasSize switch_size) SwitchReaches who o (switch_goes p m).next (switch_goes p m).memory
goes_well who (op.Write w) (op.Write v) choice m z r = record { holds = record { cells = refl; words = refl }; may_be_at = tt }
goes_well who op.Read op.Read choice m z r = record { holds = z; may_be_at = value_below (cell_at 0 m).value }
goes_well who (op.Write w) op.Read choice m z r = cc
goes_well who op.Read (op.Write v) choice m z r = cc

-- if an operation chose a bit, it would be of the only cell; but none does
chosen_cell_is_own : (p : Op) (m : Memory) → MatchOption (switch_goes p m).chosen ⊤ (λ bit. bit.0 < 1)
chosen_cell_is_own (op.Write v) m = tt
chosen_cell_is_own op.Read m = tt

-- the next action is on the only cell
acts_own : (p : Op) → (switch_acts p).cell < 1
acts_own (op.Write v) = omega arith
acts_own op.Read = omega arith

pub switch_lawful : IsLawful switch (HasSize switch_size) SwitchReaches
switch_lawful = record {
  few_cells = omega arith;
  few_words = omega arith;
  some_frame = omega arith;
  few_frames = omega arith;
  zero_writes = λ v lt. writer.zero_writes 2 2 v (omega arith) lt;
  others_read = λ who some few. writer.others_read 2 2 who some few;
  nobody_else = λ who o h. writer.nobody_else 2 2 who o h;
  no_other_value = λ who v h. writer.no_other_value 2 2 who v h;
  size_holds = λ m z. z;
  initial_holds = λ v lt. record { cells = refl; words = refl };
  begins_well = λ who o m z fits. record { holds = z; may_be_at = (refl, fits) };
  goes_well = goes_well;
  chooses_own = λ who o p choice m z r. chosen_cell_is_own p m;
  unused_choice = λ who o p m z r none. refl;
  reached_suits = λ who o p r. r.1;
  frames_fit = λ who o p r. omega arith;
  acts_own = λ who o p r. acts_own p;
}

pub switch_frames_give_point : FramesGivePoint switch SwitchReaches switch_point
switch_frames_give_point = record { point = λ who o p r. refl; op = λ who o p r. ap Some r.0; none = λ who. refl }

-- in a register at a place of a memory, a read finds the bit of the cell at that place
pub reads_own : (at : Place) (m : Memory) → (cell_at 0 (part at switch_size m)).value ≡ (cell_at at.cell m).value
reads_own at m = ap (λ c. c.value) (cell_at-part at switch_size 0 m (omega arith) ∙ ap (λ i. cell_at i m) (add-zero at.cell))

-- if the number of frames isn't one, they give no point
pub no_point_unless_one_frame : (who first : ℕ) (stack : List Frame) → length (drop first stack) ≢ 1 → IsPointByFrames switch.frames SwitchReaches who (drop first stack) None
no_point_unless_one_frame who first stack other o p there e = other (ap length e)

-- if process `who` has just one frame, and may make that frame's operation, then the process is at
-- the point that is this operation (this register's points are its operations)
pub one_frame_gives_point : (who first : ℕ) (stack : List Frame) (frame : Frame) → drop first stack ≡ frame ∷ drop (first + 1) stack → length stack - first ≡ 1
    → one_writer 2 2 who frame.op ≡ true → frame ≡ switch_frame frame.op → IsPointByFrames switch.frames SwitchReaches who (drop first stack) (Some frame.op)
one_frame_gives_point who first stack frame found one fits same =
    let none : drop (first + 1) stack ≡ [] = nil_from_length (drop (first + 1) stack) (length-drop (first + 1) stack ∙ omega (arith, one)) in
    (frame.op, ((refl, fits), found ∙ ap (λ xs. frame ∷ xs) none ∙ ap (λ x. x ∷ []) same))
