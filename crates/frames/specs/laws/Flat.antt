-- Laws of stacks of frames: a stack determines which operation is pending and at which point, and a
-- test decides whether two stacks are the same.
use Rattle.std.proofs.Common.{◌≡◌, ℕ, zero, suc, ◌+◌, Bool, true, List, [], ◌∷◌, length, set, take, replicate, Option, Some, None, option_map, refl, ap, subst, ◌∙◌, arith}
use Rattle.std.specs.Bool.{Decides}
use mathlib.Core.Bool.{◌&&◌, beq}
use Rattle.std.specs.Cmp.{IsPartialEquivalence, booleans_Decides}
use Rattle.std.specs.Cmp.Lexicographic.{pointwise}
use Rattle.std.proofs.lemmas.Bool.{false≢true}
use Rattle.std.proofs.lemmas.Bool.Decides.{Decides-and, Decides-eqb, Decides-like}
use Rattle.std.proofs.lemmas.Slice.Eq.{slice_eq-Decides}
use Rattle.safe_bit.specs.laws.Equality.{per_from_decides}
use Rattle.frames.specs.contracts.types.FramePartialEq.TheImpl as frames
use Rattle.frames.specs.contracts.types.FrameLayerPartialEq.TheImpl as layers
use Rattle.frames.specs.contracts.types.LayerNamePartialEq.TheImpl as names
use Rattle.schedule_steps.specs.declared.types.Op.{Op}
use Rattle.frames.specs.declared.types.Frame.{Frame}
use Rattle.frames.specs.declared.types.FrameLayer.{FrameLayer}
use Rattle.frames.specs.declared.types.FrameLayer.TheVariants as layer
use Rattle.frames.specs.declared.types.LayerName.{LayerName}
use Rattle.frames.specs.declared.running.Running.{Running}
use Rattle.frames.specs.declared.config.ProcessState.{ProcessState}
use Rattle.frames.specs.Behaviour.{Behaviour}
use Rattle.frames.specs.Equality.{op_decides}
use Rattle.frames.specs.Flat.{outermost, FramesGivePoint, IsReached, running_of, running_from, stack_of}

-- the derived `==` of layers' names is true exactly if the two names are the same
name_decides : (a b : LayerName) → Decides (names.eq-value.it a b) (a ≡ b)
name_decides a b =
    Decides-like (names.eq-value.it a b) (λ p. λ i. record { 0 = p.0 i; 1 = p.1.0 i; 2 = p.1.1 i })
    (λ p. (ap (λ n. n.0) p, (ap (λ n. n.1) p, ap (λ n. n.2) p)))
    (Decides-and _ _ (Decides-eqb a.0 b.0) (Decides-and _ _ (Decides-eqb a.1 b.1) (Decides-eqb a.2 b.2)))

layer_equals_itself : (a : FrameLayer) → layers.eq-value.it a a ≡ true
layer_equals_itself = elim [ layer.Named a ↦ (name_decides a a).1 refl | _ ↦ refl ]

-- layers that the derived `==` finds equal are the same; by cases, since `cc` at two different
-- layers takes a quarter of a second
layers_same_if_equal : (a b : FrameLayer) → layers.eq-value.it a b ≡ true → a ≡ b
layers_same_if_equal layer.Safe layer.Safe h = refl
layers_same_if_equal layer.Copies layer.Copies h = refl
layers_same_if_equal layer.Regular layer.Regular h = refl
layers_same_if_equal layer.Unary layer.Unary h = refl
layers_same_if_equal layer.Stamped layer.Stamped h = refl
layers_same_if_equal layer.MatrixRead layer.MatrixRead h = refl
layers_same_if_equal layer.MatrixWrite layer.MatrixWrite h = refl
layers_same_if_equal (layer.Named a) (layer.Named b) h = ap layer.Named ((name_decides a b).0 h)
layers_same_if_equal _ _ h = absurd (false≢true h)

-- the derived `==` of frames' layers is true exactly if the two layers are the same
layer_decides : (a b : FrameLayer) → Decides (layers.eq-value.it a b) (a ≡ b)
layer_decides a b = (layers_same_if_equal a b, λ h. subst (λ x. layers.eq-value.it a x ≡ true) h (layer_equals_itself a))

-- the derived `==` of frames is true exactly if the two frames are the same
pub frame_decides : (a b : Frame) → Decides (frames.eq-value.it a b) (a ≡ b)
frame_decides a b =
    Decides-like (frames.eq-value.it a b) (λ p. λ i. record { layer = p.0 i; op = p.1.0 i; i = p.1.1.0 i; x = p.1.1.1 i })
    (λ p. (ap (λ f. f.layer) p, (ap (λ f. f.op) p, (ap (λ f. f.i) p, ap (λ f. f.x) p))))
    (Decides-and _ _ (layer_decides a.layer b.layer) (Decides-and _ _ (op_decides a.op b.op) (Decides-and _ _ (Decides-eqb a.i b.i) (Decides-eqb a.x b.x))))

-- whether two stacks have equal frames in the same order
abbrev pub stack_eq : List Frame → List Frame → Bool
stack_eq = pointwise frames.eq-value.it

pub stack_decides : (xs ys : List Frame) → Decides (stack_eq xs ys) (xs ≡ ys)
stack_decides xs ys = slice_eq-Decides frame_decides xs ys _ refl

pub stack_per : IsPartialEquivalence stack_eq
stack_per = per_from_decides stack_eq stack_decides

-- whether two processes have equal stacks and equal stop marks
abbrev pub process_eq : ProcessState → ProcessState → Bool
process_eq a b = stack_eq a.stack b.stack && beq a.stopped b.stopped

pub process_decides : (a b : ProcessState) → Decides (process_eq a b) (a ≡ b)
process_decides a b =
    Decides-like (process_eq a b) (λ p. λ i. record { stack = p.0 i; stopped = p.1 i }) (λ p. (ap (λ x. x.stack) p, ap (λ x. x.stopped) p))
    (Decides-and (stack_eq a.stack b.stack) _ (stack_decides a.stack b.stack) (booleans_Decides a.stopped b.stopped))

pub process_per : IsPartialEquivalence process_eq
process_per = per_from_decides process_eq process_decides

-- an item can be set before or after the first `count` items are taken
pub take_of_set : (index count : ℕ) (frames : List Frame) (frame : Frame) → take count (set frames index frame) ≡ set (take count frames) index frame
take_of_set index zero frames frame = refl
take_of_set index (suc count) [] frame = refl
take_of_set zero (suc count) (x ∷ xs) frame = refl
take_of_set (suc index) (suc count) (x ∷ xs) frame = ap (λ l. x ∷ l) (take_of_set index count xs frame)

-- replacing a process's stack replaces the operation that the stack describes
pub set_running : {P : Type 0} (point : ℕ → List Frame → Option P) (k : ℕ) (stacks : List (List Frame)) (who : ℕ) (stack : List Frame)
    → running_from point k (set stacks who stack) ≡ set (running_from point k stacks) who (running_of (point (k + who)) stack)
set_running point k [] who stack = refl
set_running point k (s ∷ ss) zero stack = let e : k ≡ k + zero = omega arith in ap (λ n. running_of (point n) stack ∷ running_from point (k + 1) ss) e
set_running point k (s ∷ ss) (suc who) stack =
    let e : k + 1 + who ≡ k + suc who = omega arith in
    ap (λ l. running_of (point k) s ∷ l) (set_running point (k + 1) ss who stack ∙ ap (λ n. set (running_from point (k + 1) ss) who (running_of (point n) stack)) e)

pub length_running : {P : Type 0} (point : ℕ → List Frame → Option P) (k : ℕ) (stacks : List (List Frame)) → length (running_from point k stacks) ≡ length stacks
length_running point k [] = refl
length_running point k (s ∷ ss) = ap suc (length_running point (k + 1) ss)

pub none_running : {P : Type 0} (point : ℕ → List Frame → Option P) (k n : ℕ) → running_from point k (replicate n []) ≡ replicate n None
none_running point k zero = refl
none_running point k (suc n) = ap (λ l. None ∷ l) (none_running point (k + 1) n)

module _ {P : Type 0} (b : Behaviour P) (Reaches : ℕ → Op → P → Type 0) (point : ℕ → List Frame → Option P) (gives_point : FramesGivePoint b Reaches point) where
  -- a stack describes operation o at point p if its outermost frame has o and `point` gives p
  running_described : (who : ℕ) (stack : List Frame) (o : Op) (p : P) → outermost stack ≡ Some o → point who stack ≡ Some p → running_of (point who) stack ≡ Some (record { op = o; point = p })
  running_described who [] o p first found = cc
  running_described who (frame ∷ rest) o p first found =
      let e : frame.op ≡ o = cc in ap (λ q. option_map (λ x. record { op = frame.op; point = x }) q) found ∙ ap (λ q. Some (record { op = q; point = p })) e

  -- the frames of a pending operation determine the operation and its point
  pub slot_by_frames : (who : ℕ) (slot : Option (Running P)) → IsReached Reaches who slot → running_of (point who) (stack_of b slot) ≡ slot
  slot_by_frames who None h = refl
  slot_by_frames who (Some r) h = running_described who (b.frames r.point) r.op r.point (gives_point.op who r.op r.point h) (gives_point.point who r.op r.point h)

  -- the outermost frame of a process's stack has the process's pending operation; an idle process
  -- has no frame
  pub slot_op : (who : ℕ) (slot : Option (Running P)) → IsReached Reaches who slot → outermost (stack_of b slot) ≡ option_map (λ r. r.op) slot
  slot_op who None h = refl
  slot_op who (Some r) h = gives_point.op who r.op r.point h

  -- `point` gives the point of a process's pending operation from its stack; `None` if the process
  -- is idle
  pub slot_point : (who : ℕ) (slot : Option (Running P)) → IsReached Reaches who slot → point who (stack_of b slot) ≡ option_map (λ r. r.point) slot
  slot_point who None h = gives_point.none who
  slot_point who (Some r) h = gives_point.point who r.op r.point h
