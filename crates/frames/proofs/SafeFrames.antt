-- Which frames describe a point of an operation on a safe bit.
use Rattle.std.proofs.Common.{◌≡◌, ℕ, ◌+◌, ◌-◌, ◌<◌, Bool, true, false, List, [], ◌∷◌, length, drop, Some, None, refl, ap, ◌∙◌, arith, length-drop}
use Rattle.std.specs.Prelude.{◌≢◌, ◌==◌, if◌then◌else◌}
use Rattle.std.proofs.lemmas.Bool.Decides.{nat_tests}
use Rattle.std.proofs.lemmas.List.{nil_from_length}
use Rattle.schedule_steps.specs.declared.types.Op.{Op}
use Rattle.schedule_steps.specs.declared.types.Op.TheVariants as op
use Rattle.frames.specs.declared.types.Frame.{Frame}
use Rattle.frames.specs.declared.safe.SafePoint.TheVariants as at
use Rattle.frames.specs.Flat.{IsPointByFrames}
use Rattle.frames.specs.SafeBit.{safe_behaviour, SafeReaches, safe_suits, safe_frame, point_at, bit_of}

-- a safe bit's process can be at the point of a frame whose operation fits it
reaches_at : (who i : ℕ) (o : Op) → safe_suits who o ≡ true → SafeReaches who o (point_at o i)
reaches_at who i (op.Write v) fits =
    let zero : who ≡ 0 = grind (arith, nat_tests) in
    let low : v < 2 = grind (arith, nat_tests) in
    at_test (i == 0)
  where
    at_test : (t : Bool) → SafeReaches who (op.Write v) (if t then at.WriteStart (bit_of v) else at.WriteEnd (bit_of v))
    at_test true = (grind (arith, nat_tests), grind (arith, nat_tests), refl)
    at_test false = (grind (arith, nat_tests), grind (arith, nat_tests), refl)
reaches_at who i op.Read fits = at_test (i == 0)
  where
    at_test : (t : Bool) → SafeReaches who op.Read (if t then at.ReadStart else at.ReadEnd)
    at_test true = grind (arith, nat_tests)
    at_test false = grind (arith, nat_tests)

module _ (who first : ℕ) (stack : List Frame) where
  -- a list of frames whose length isn't 1 describes no point, since a safe bit's operation has
  -- exactly one frame
  pub no_point_unless_one_frame : length (drop first stack) ≢ 1 → IsPointByFrames safe_behaviour.frames SafeReaches who (drop first stack) None
  no_point_unless_one_frame other o p there e = other (ap length e)

  module _ (frame : Frame) (found : drop first stack ≡ frame ∷ drop (first + 1) stack) where
    pub point_of_one_frame : length stack - first ≡ 1 → safe_suits who frame.op ≡ true → frame ≡ safe_frame (point_at frame.op frame.i)
        → IsPointByFrames safe_behaviour.frames SafeReaches who (drop first stack) (Some (point_at frame.op frame.i))
    point_of_one_frame one fits same =
        let none : drop (first + 1) stack ≡ [] = nil_from_length (drop (first + 1) stack) (length-drop (first + 1) stack ∙ omega (arith, one)) in
        (frame.op, (reaches_at who frame.i frame.op fits, found ∙ ap (λ xs. frame ∷ xs) none ∙ ap (λ x. x ∷ []) same))
