-- The register of one safe bit obeys the laws of every register.
use Rattle.std.proofs.Common.{◌≡◌, ℕ, zero, suc, ◌+◌, ◌<◌, Bool, true, false, List, [], ◌∷◌, ◌++◌, length, set, take, drop, add-zero, ◌∙◌, Some, None, refl, sym, ap, subst, arith, append-nil, length-drop, length-set, take_all}
use Rattle.std.proofs.lemmas.List.{take_more_set}
use Rattle.std.proofs.lemmas.Bool.Decides.{nat_tests, Decides-like}
use Rattle.std.specs.Bool.{Decides, if◌then◌else◌, ⊤}
use Rattle.std.specs.Option.{MatchOption}
use Rattle.std.specs.Cmp.{booleans_Decides}
use mathlib.Core.Bool.{beq}
use mir.Val.{bool_byte}
use Rattle.safe_bit.specs.Memory.{Memory, on_cell, cell_at}
use Rattle.safe_bit.specs.Actions.{idle_cell, start_write, end_write, start_read, end_read, read_gives}
use Rattle.safe_bit.specs.Parts.{HasSize, LiesIn, part, with_part}
use Rattle.safe_bit.specs.laws.Parts.{HasSize-on_cell, HasSize-part, on_cell-part, same_memory, with_part-own}
use Rattle.safe_bit.specs.declared.Cell.{Cell}
use Rattle.safe_bit.specs.declared.Place.{Place}
use Rattle.std.proofs.lemmas.List.{nil_from_length}
use Rattle.schedule_steps.specs.declared.types.Op.{Op}
use Rattle.schedule_steps.specs.declared.types.Op.TheVariants as op
use Rattle.frames.specs.contracts.safe.SafePointPartialEq.TheImpl as points
use Rattle.frames.specs.declared.safe.SafePoint.{SafePoint}
use Rattle.frames.specs.declared.safe.SafePoint.TheVariants as at
use Rattle.frames.specs.declared.types.Outcome.{Outcome}
use Rattle.frames.specs.declared.types.Outcome.TheVariants.{Value}
use Rattle.frames.specs.declared.types.Next.TheVariants.{Pending, Done}
use Rattle.frames.specs.declared.types.Frame.{Frame}
use Rattle.frames.specs.declared.types.FrameLayer.TheVariants as layer
use Rattle.frames.specs.Behaviour.{IsLawful, GoesOn, Moved}
use Rattle.frames.specs.Flat.{outcome_of, left_frames, outermost, Lands, HasFramesFrom, FramesGivePoint}
use Rattle.frames.specs.SafeBit.{safe_behaviour, SafeReaches, safe_suits, safe_begins, safe_goes, safe_acts, safe_frame, point_at, safe_point, bit_of, value_of}

value_below : (b : Bool) → value_of b < 2
value_below false = omega arith
value_below true = omega arith

suited_below_2 : (who : ℕ) (o : Op) → safe_suits who o ≡ true → who < 2
suited_below_2 who (op.Write v) h = grind (arith, nat_tests)
suited_below_2 who op.Read h = grind (arith, nat_tests)

invocation_goes_on : (who : ℕ) (o : Op) (m : Memory) → HasSize safe_behaviour.size m → safe_suits who o ≡ true
    → GoesOn safe_behaviour (HasSize safe_behaviour.size) SafeReaches who o (safe_begins who o m).next (safe_begins who o m).memory
invocation_goes_on who (op.Write v) m z fits = let zero : who ≡ 0 = grind (arith, nat_tests) in let low : v < 2 = grind (arith, nat_tests) in record { holds = z; may_be_at = (zero, low, refl) }
invocation_goes_on who op.Read m z fits = let one : who ≡ 1 = grind (arith, nat_tests) in record { holds = z; may_be_at = one }

hit_bit_is_0 : (hit v : Bool) → MatchOption {T = ℕ × Bool} (if hit then Some (0, v) else None) ⊤ (λ bit. bit.0 < 1)
hit_bit_is_0 false v = tt
hit_bit_is_0 true v = omega arith

action_goes_on : (who : ℕ) (o : Op) (p : SafePoint) (choice : Bool) (m : Memory) → HasSize safe_behaviour.size m → SafeReaches who o p
    → GoesOn safe_behaviour (HasSize safe_behaviour.size) SafeReaches who o (safe_goes p choice m).next (safe_goes p choice m).memory
action_goes_on who (op.Write v) (at.WriteStart b) choice m z r = record { holds = HasSize-on_cell _ 0 (start_write b) m z; may_be_at = r }
action_goes_on who (op.Write v) (at.WriteEnd b) choice m z r = record { holds = HasSize-on_cell _ 0 end_write m z; may_be_at = tt }
action_goes_on who op.Read at.ReadStart choice m z r = record { holds = HasSize-on_cell _ 0 start_read m z; may_be_at = r }
action_goes_on who op.Read at.ReadEnd choice m z r = record {
  holds = HasSize-on_cell _ 0 end_read m z;
  may_be_at = value_below (read_gives choice (cell_at 0 m));
}
action_goes_on who _ _ choice m z r = absurd r

chosen_is_cell_0 : (p : SafePoint) (choice : Bool) (m : Memory) → MatchOption (safe_goes p choice m).chosen ⊤ (λ bit. bit.0 < 1)
chosen_is_cell_0 at.ReadEnd choice m = hit_bit_is_0 (cell_at 0 m).hit (read_gives choice (cell_at 0 m))
chosen_is_cell_0 _ choice m = tt

-- the effect of a read's end action on a bit with this value; `hit`: whether the read was hit
abbrev read_end_effect : Bool → Bool → Bool → Memory → Moved SafePoint
read_end_effect hit value choice after = record {
  next = Done (Value (value_of (if hit then choice else value)));
  chosen = if hit then Some (0, if hit then choice else value) else None;
  memory = after;
}

-- a read's end action has the same effect with either choice, if the read isn't hit
choice_unused_if_not_hit : (hit value : Bool) (after : Memory) → (read_end_effect hit value false after).chosen ≡ None → read_end_effect hit value true after ≡ read_end_effect hit value false after
choice_unused_if_not_hit false value after none = refl
choice_unused_if_not_hit true value after none = cc

choice_unused : (p : SafePoint) (m : Memory) → (safe_goes p false m).chosen ≡ None → safe_goes p true m ≡ safe_goes p false m
choice_unused (at.WriteStart b) m none = refl
choice_unused (at.WriteEnd b) m none = refl
choice_unused at.ReadStart m none = refl
choice_unused at.ReadEnd m none = choice_unused_if_not_hit (cell_at 0 m).hit (cell_at 0 m).value (on_cell 0 end_read m) none

reached_is_suited : (who : ℕ) (o : Op) (p : SafePoint) → SafeReaches who o p → safe_suits who o ≡ true
reached_is_suited who (op.Write v) (at.WriteStart b) r = let zero = r.0 in let low = r.1 in grind (arith, nat_tests)
reached_is_suited who (op.Write v) (at.WriteEnd b) r = let zero = r.0 in let low = r.1 in grind (arith, nat_tests)
reached_is_suited who op.Read at.ReadStart r = grind (arith, nat_tests)
reached_is_suited who op.Read at.ReadEnd r = grind (arith, nat_tests)
reached_is_suited who _ _ r = absurd r

acts_on_cell_0 : (p : SafePoint) → (safe_acts p).cell < 1
acts_on_cell_0 (at.WriteStart b) = omega arith
acts_on_cell_0 _ = omega arith

set_single : {A : Type 0} (x : A) (xs : List A) → length xs ≡ 1 → set xs 0 x ≡ x ∷ []
set_single x [] e = absurd (omega arith)
set_single x (y ∷ []) e = refl
set_single x (y ∷ (z ∷ zs)) e = absurd (omega arith)

-- the size of a safe bit: one cell
abbrev pub safe_size : Place
safe_size = record { cell = 1; word = 0 }

-- changing the cell at a safe bit's place is the same as changing the bit's own memory and putting
-- it back
pub on_own_cell : (at : Place) (f : Cell → Cell) (m : Memory) → LiesIn at safe_size m → on_cell at.cell f m ≡ with_part at (on_cell 0 f (part at safe_size m)) m
on_own_cell at f m h = ap (λ i. on_cell i f m) (sym (add-zero at.cell)) ∙ on_cell-part at safe_size 0 f m h (omega arith)

-- setting the cell at a safe bit's place is the same as putting in a memory of this one cell
pub with_own_cell : (at : Place) (v : Bool) (m : Memory) → LiesIn at safe_size m
    → on_cell at.cell (λ _. idle_cell v) m ≡ with_part at (record { cells = idle_cell v ∷ []; words = [] }) m
with_own_cell at v m h =
    on_own_cell at (λ _. idle_cell v) m h
    ∙ ap (λ inner. with_part at inner m) (same_memory (on_cell 0 (λ _. idle_cell v) (part at safe_size m)) (record { cells = idle_cell v ∷ []; words = [] })
    (set_single (idle_cell v) (part at safe_size m).cells (HasSize-part at safe_size m h).cells)
    (nil_from_length (part at safe_size m).words (HasSize-part at safe_size m h).words))

-- the derived `==` of points is true exactly if the two points are equal
pub point_decides : (x y : SafePoint) → Decides (points.eq-value.it x y) (x ≡ y)
point_decides (at.WriteStart b) (at.WriteStart c) = Decides-like (beq b c) (λ p. ap at.WriteStart p) (λ p. cc) (booleans_Decides b c)
point_decides (at.WriteEnd b) (at.WriteEnd c) = Decides-like (beq b c) (λ p. ap at.WriteEnd p) (λ p. cc) (booleans_Decides b c)
point_decides at.ReadStart at.ReadStart = (λ h. refl, λ h. refl)
point_decides at.ReadEnd at.ReadEnd = (λ h. refl, λ h. refl)
point_decides _ _ = (λ h. cc, λ h. cc)

pub safe_lawful : IsLawful safe_behaviour (HasSize safe_behaviour.size) SafeReaches
safe_lawful = record {
  few_cells = omega arith;
  few_words = omega arith;
  some_frame = omega arith;
  few_frames = omega arith;
  zero_writes = λ v lt. grind (arith, nat_tests);
  others_read = λ who some few. grind (arith, nat_tests);
  nobody_else = suited_below_2;
  no_other_value = λ who v h. grind (arith, nat_tests);
  size_holds = λ m z. z;
  initial_holds = λ v lt. record { cells = refl; words = refl };
  begins_well = invocation_goes_on;
  goes_well = action_goes_on;
  chooses_own = λ who o p choice m z r. chosen_is_cell_0 p choice m;
  unused_choice = λ who o p m z r none. choice_unused p m none;
  reached_suits = reached_is_suited;
  frames_fit = λ who o p r. omega arith;
  acts_own = λ who o p r. acts_on_cell_0 p;
}

-- the byte that represents a bit is the bit's value, 0 or 1
pub byte_value : (b : Bool) → bool_byte b ≡ value_of b
byte_value false = refl
byte_value true = refl

-- `bit_of` gives a bit back from the bit's value
bit_of_its_value : (b : Bool) → bit_of (value_of b) ≡ b
bit_of_its_value false = refl
bit_of_its_value true = refl

-- from the frame of a point, `point_at` gives the point back
pub point_of_its_frame : (p : SafePoint) → point_at (safe_frame p).op (safe_frame p).i ≡ p
point_of_its_frame (at.WriteStart b) = ap at.WriteStart (bit_of_its_value b)
point_of_its_frame (at.WriteEnd b) = ap at.WriteEnd (bit_of_its_value b)
point_of_its_frame at.ReadStart = refl
point_of_its_frame at.ReadEnd = refl

-- the value of the bit of v is v, if v is 0 or 1
pub value_of_its_bit : (v : ℕ) → v < 2 → value_of (bit_of v) ≡ v
value_of_its_bit zero lt = refl
value_of_its_bit (suc zero) lt = refl
value_of_its_bit (suc (suc v)) lt = absurd (omega (arith, lt))

-- the outermost frame of an operation has the operation
op_of_the_frames : (who : ℕ) (o : Op) (p : SafePoint) → SafeReaches who o p → outermost (safe_behaviour.frames p) ≡ Some o
op_of_the_frames who (op.Write v) (at.WriteStart b) r = ap (λ x. Some (op.Write x)) (ap value_of r.2 ∙ value_of_its_bit v r.1)
op_of_the_frames who (op.Write v) (at.WriteEnd b) r = ap (λ x. Some (op.Write x)) (ap value_of r.2 ∙ value_of_its_bit v r.1)
op_of_the_frames who op.Read at.ReadStart r = refl
op_of_the_frames who op.Read at.ReadEnd r = refl
op_of_the_frames who _ _ r = absurd r

pub safe_frames_give_point : FramesGivePoint safe_behaviour SafeReaches safe_point
safe_frames_give_point = record { point = λ who o p r. ap Some (point_of_its_frame p); op = op_of_the_frames; none = λ who. refl }

-- an invocation leaves the memory as it was
pub begin_leaves_memory : (at : Place) (m : Memory) (who : ℕ) (o : Op) → LiesIn at safe_size m → m ≡ with_part at (safe_begins who o (part at safe_size m)).memory m
begin_leaves_memory at m who (op.Write v) lies = sym (with_part-own at safe_size m lies)
begin_leaves_memory at m who op.Read lies = sym (with_part-own at safe_size m lies)

-- an invocation pushes the operation's one frame after the frames already on the stack
pub begin_lands : (at : Place) (m : Memory) (who : ℕ) (o : Op) (stack : List Frame) → LiesIn at safe_size m → safe_suits who o ≡ true
    → Lands safe_behaviour.frames at (safe_begins who o (part at safe_size m)).next (safe_begins who o (part at safe_size m)).memory stack m None
    (stack ++ record { layer = layer.Safe; op = o; i = 0; x = 0 } ∷ []) m
begin_lands at m who (op.Write v) stack lies fits =
    let low : v < 2 = grind (arith, nat_tests) in
    record {
      answer = refl;
      stack = ap (λ x. stack ++ record { layer = layer.Safe; op = op.Write x; i = 0; x = 0 } ∷ []) (sym (value_of_its_bit v low));
      memory = sym (with_part-own at safe_size m lies);
    }
begin_lands at m who op.Read stack lies fits = record { answer = refl; stack = refl; memory = sym (with_part-own at safe_size m lies) }

-- if a list has just one item from index `first` on, its length is `first` + 1
length_if_one_left : {A : Type 0} (first : ℕ) (xs : List A) (x : A) → drop first xs ≡ x ∷ [] → length xs ≡ first + 1
length_if_one_left first xs x e = let l = ap length e in omega (arith, l, length-drop first xs)

-- if a list has just one item from index `first` on, setting that item gives the items before it,
-- and then the new one
set_last : {A : Type 0} (first : ℕ) (xs : List A) (x y : A) → drop first xs ≡ x ∷ [] → set xs first y ≡ take first xs ++ y ∷ []
set_last first xs x y e =
    let l = length_if_one_left first xs x e in
    sym (take_all (first + 1) (set xs first y) (omega (arith, l, length-set xs first y))) ∙ take_more_set xs first y (omega (arith, l))

module _ (at : Place) (m : Memory) (who first : ℕ) (stack : List Frame) (choice : Bool) (frame : Frame) (q : SafePoint)
    (found : drop first stack ≡ frame ∷ drop (first + 1) stack) (is : q ≡ point_at frame.op frame.i) where
  -- if the frames from index `first` on are those of point p, p is the point that the frame at
  -- `first` describes
  same_point : (o : Op) (p : SafePoint) → HasFramesFrom safe_behaviour.frames SafeReaches who first stack o p → q ≡ p
  same_point o p on =
      let e : frame ∷ drop (first + 1) stack ≡ safe_frame p ∷ [] = sym found ∙ on.there in
      let f : frame ≡ safe_frame p = cc in
      is ∙ ap (λ x. point_at x.op x.i) f ∙ point_of_its_frame p

  -- if an operation is still pending after a bit action, its frame is replaced by that of the new
  -- point
  pub frame_replaced : (q' : SafePoint) (m' : Memory) → (safe_goes q choice (part at safe_size m)).next ≡ Pending q' → m' ≡ with_part at (safe_goes q choice (part at safe_size m)).memory m
      → (o : Op) (p : SafePoint) → HasFramesFrom safe_behaviour.frames SafeReaches who first stack o p
      → Lands safe_behaviour.frames at (safe_goes p choice (part at safe_size m)).next (safe_goes p choice (part at safe_size m)).memory (take first stack) m None (set stack first (safe_frame q')) m'
  frame_replaced q' m' next memory o p on =
      subst (λ x. Lands safe_behaviour.frames at (safe_goes x choice (part at safe_size m)).next (safe_goes x choice (part at safe_size m)).memory (take first stack) m None (set stack first (safe_frame q')) m')
      (same_point o p on)
      (record {
        answer = sym (ap outcome_of next);
        stack = set_last first stack (safe_frame p) (safe_frame q') on.there ∙ ap (λ n. take first stack ++ left_frames safe_behaviour.frames n) (sym next);
        memory = memory;
      })

  -- if a bit action ends an operation, the operation's frame is dropped
  pub frame_dropped : (outcome : Outcome) (m' : Memory) → (safe_goes q choice (part at safe_size m)).next ≡ Done outcome → m' ≡ with_part at (safe_goes q choice (part at safe_size m)).memory m
      → (o : Op) (p : SafePoint) → HasFramesFrom safe_behaviour.frames SafeReaches who first stack o p
      → Lands safe_behaviour.frames at (safe_goes p choice (part at safe_size m)).next (safe_goes p choice (part at safe_size m)).memory (take first stack) m (Some outcome) (take first stack) m'
  frame_dropped outcome m' next memory o p on =
      subst (λ x. Lands safe_behaviour.frames at (safe_goes x choice (part at safe_size m)).next (safe_goes x choice (part at safe_size m)).memory (take first stack) m (Some outcome) (take first stack) m')
      (same_point o p on)
      (record {
        answer = sym (ap outcome_of next);
        stack = sym (append-nil (take first stack)) ∙ ap (λ n. take first stack ++ left_frames safe_behaviour.frames n) (sym next);
        memory = memory;
      })
