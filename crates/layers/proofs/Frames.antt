-- What the frames of a layer's pending operation determine, and what they don't.
use Rattle.std.proofs.Common.{◌≡◌, ℕ, suc, ◌+◌, false, true, ◌<◌, ◌≤◌, List, [], ◌∷◌, ◌++◌, length, drop, Option, Some, None, sym, ap, subst, ◌∙◌, arith, append_assoc}
use Rattle.frames.specs.declared.types.Op.{Op}
use Rattle.frames.specs.declared.types.Frame.{Frame}
use Rattle.frames.specs.Flat.{FramesGivePoint, IsPointByFrames, outermost}
use Rattle.layers.specs.declared.nested.Ask.{Ask}
use Rattle.layers.specs.declared.nested.Nested.{Nested}
use Rattle.layers.specs.Nested.{layered}
use Rattle.layers.specs.Sound.{LayerReaches}
use Rattle.layers.specs.laws.Flat.{same_item_and_rest}
use Rattle.layers.specs.laws.Over.{LayerOver}

-- there is at least one frame if there is an outermost operation
frame_exists : (xs : List Frame) (o : Op) → outermost xs ≡ Some o → 1 ≤ length xs
frame_exists [] o e = cc
frame_exists (x ∷ xs) o e = omega arith

-- the frames are pushed in this order: the layer's own, and then those of its part's point
pub pushed_frames : (stack pushed all below : List Frame) (own frame : Frame) → pushed ≡ stack ++ own ∷ [] → all ≡ pushed ++ below → own ≡ frame → all ≡ stack ++ frame ∷ below
pushed_frames stack pushed all below own frame push rest same =
    rest ∙ ap (λ xs. xs ++ below) push ∙ append_assoc stack (own ∷ []) below ∙ ap (λ x. stack ++ x ∷ below) same

-- fewer than two frames describe no point: a layer's operation has its own frame and at least one
-- of its part's
pub no_point_if_few : {Task P : Type 0} (l : LayerOver Task P) (find : ℕ → List Frame → Option P) → FramesGivePoint l.below l.Reaches find → (who first : ℕ) (stack : List Frame)
    → length (drop first stack) < 2 → IsPointByFrames (layered l.table l.below).frames (LayerReaches l.table l.MayBeAt l.Reaches) who (drop first stack) None
no_point_if_few l find gives_point who first stack few o n there e =
    let some = frame_exists (l.below.frames n.below) (l.table.asks n.task).op (gives_point.op (l.table.asks n.task).who (l.table.asks n.task).op n.below there.below) in
    let long : length (drop first stack) ≡ suc (length (l.below.frames n.below)) = ap length e in
    omega (arith, few, some, long)

module _ {Task P : Type 0} (l : LayerOver Task P) (find : ℕ → List Frame → Option P) (gives_point : FramesGivePoint l.below l.Reaches find) (who first : ℕ) (stack : List Frame)
    (own : Frame) (task : Task) (a : Ask) (there : drop first stack ≡ own ∷ drop (first + 1) stack)
    (at_own_task : l.MayBeAt who own.op task × (l.table.frame task ≡ own)) (asks : a ≡ l.table.asks task) where
  abbrev IsPoint : Option (Nested Task P) → Type 0
  IsPoint n = IsPointByFrames (layered l.table l.below).frames (LayerReaches l.table l.MayBeAt l.Reaches) who (drop first stack) n

  -- the frames describe a point of the layer: its own frame comes first, and then those of its
  -- part's point
  pub point_below : (inner : Frame) → drop (first + 1) stack ≡ inner ∷ drop (first + 1 + 1) stack → inner.op ≡ a.op → (p : P)
      → IsPointByFrames l.below.frames l.Reaches a.who (drop (first + 1) stack) (Some p) → IsPoint (Some (record { task = task; below = p }))
  point_below inner next op p below =
      let some : Some below.0 ≡ Some a.op = sym (gives_point.op a.who below.0 p below.1.0) ∙ ap outermost (sym below.1.1 ∙ next) ∙ ap Some op in
      let same : below.0 ≡ a.op = cc in
      let reached : l.Reaches a.who a.op p = subst (λ o. l.Reaches a.who o p) same below.1.0 in (
        own.op,
        (
          record { may_be_at = at_own_task.0; below = subst (λ b. l.Reaches b.who b.op p) asks reached },
          there ∙ ap (λ x. x ∷ drop (first + 1) stack) (sym at_own_task.1) ∙ ap (λ xs. l.table.frame task ∷ xs) below.1.1,
        ),
      )

  -- if these frames are those of a point, the point's task asks for `a`, and the frames after the
  -- first are those of its part's point
  part_of : (o : Op) (n : Nested Task P) → LayerReaches l.table l.MayBeAt l.Reaches who o n → drop first stack ≡ (layered l.table l.below).frames n
      → (a ≡ l.table.asks n.task) × (drop (first + 1) stack ≡ l.below.frames n.below)
  part_of o n on e =
      let parts = same_item_and_rest first stack (l.below.frames n.below) (l.table.frame n.task) own e there in
      let same : task ≡ n.task = sym (l.sound.frame_gives who own.op task at_own_task.0).0 ∙ ap (l.table.find who) (at_own_task.1 ∙ parts.0) ∙ (l.sound.frame_gives who o n.task on.may_be_at).0 in
      (asks ∙ ap l.table.asks same, parts.1)

  -- the frames describe no point of the layer, because the part's frames describe none
  pub no_point_below : IsPointByFrames l.below.frames l.Reaches a.who (drop (first + 1) stack) None → IsPoint None
  no_point_below below o n on e =
      let part = part_of o n on e in
      below (l.table.asks n.task).op n.below (subst (λ (b : Ask). l.Reaches b.who (l.table.asks n.task).op n.below) (sym part.0) on.below) part.1

  -- the frames describe no point of the layer, because the part's frame has another operation than
  -- the task asks for
  pub no_point_if_other_op : (inner : Frame) → drop (first + 1) stack ≡ inner ∷ drop (first + 1 + 1) stack → (inner.op ≡ a.op → false ≡ true) → IsPoint None
  no_point_if_other_op inner next other o n on e =
      let part = part_of o n on e in
      let some : Some inner.op ≡ Some a.op =
      ap outermost (sym next ∙ part.1) ∙ gives_point.op (l.table.asks n.task).who (l.table.asks n.task).op n.below on.below ∙ ap (λ (b : Ask). Some b.op) (sym part.0) in
      let no : false ≡ true = other (let same : inner.op ≡ a.op = cc in same) in cc
