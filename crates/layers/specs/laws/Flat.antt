-- Laws of the frames of a layer's operation: the frames determine the operation's task and the
-- point of the task's part. The last law says which frames are left after a part's step.
use Rattle.std.proofs.Common.{◌≡◌, ℕ, ◌+◌, ◌<◌, List, [], ◌∷◌, ◌++◌, length, take, drop, Option, Some, option_map, refl, sym, ap, ◌∙◌, arith, append_assoc, append-nil, length-drop}
use Rattle.std.proofs.lemmas.List.{drop_more, take_more, take-append-le, take_all}
use Rattle.frames.specs.declared.types.Outcome.{Outcome}
use Rattle.frames.specs.declared.types.Next.{Next}
use Rattle.frames.specs.declared.types.Next.TheVariants.{Pending, Done}
use Rattle.frames.specs.declared.types.Frame.{Frame}
use Rattle.frames.specs.Flat.{outcome_of, left_frames, FramesGivePoint}
use Rattle.layers.specs.Nested.{Table, layered}
use Rattle.layers.specs.Sound.{LayerReaches}
use Rattle.layers.specs.Flat.{layered_point, cut_if_ended}
use Rattle.layers.specs.laws.Over.{LayerOver}

pub layered_frames_give_point : {Task P : Type 0} (l : LayerOver Task P) (find : ℕ → List Frame → Option P) → FramesGivePoint l.below l.Reaches find
    → FramesGivePoint (layered l.table l.below) (LayerReaches l.table l.MayBeAt l.Reaches) (layered_point l.table find)
layered_frames_give_point l find gives_point = record {
  point = λ who o n there.
      let own = (l.sound.frame_gives who o n.task there.may_be_at).0 in
      (λ i. option_map (λ p. record { task = own i; below = p }) (find (l.table.asks (own i)).who (l.below.frames n.below)))
      ∙ ap (option_map (λ p. record { task = n.task; below = p })) (gives_point.point (l.table.asks n.task).who (l.table.asks n.task).op n.below there.below);
  op = λ who o n there. ap Some (l.sound.frame_gives who o n.task there.may_be_at).1;
  none = λ who. refl;
}

-- layers with equal rules find the same points from frames, if their registers below do
pub points_alike : {Task P : Type 0} (t u : Table Task) (f g : ℕ → List Frame → Option P) → t ≡ u → f ≡ g → layered_point t f ≡ layered_point u g
points_alike t u f g p q = λ i. layered_point (p i) (q i)

-- if something is left of a list after its first `first` items are dropped, then `first` is below
-- the length of the list
pub index_inside : {A : Type 0} (first : ℕ) (xs ys : List A) (x : A) → drop first xs ≡ x ∷ ys → first < length xs
index_inside first xs ys x e = let l : length (drop first xs) ≡ length (x ∷ ys) = ap length e in omega (arith, l, length-drop first xs)

-- if a list is taken apart at index `first` in two ways, the items there are equal, and so are the
-- rests
pub same_item_and_rest : {A : Type 0} (first : ℕ) (xs ys : List A) (x y : A) → drop first xs ≡ x ∷ ys → drop first xs ≡ y ∷ drop (first + 1) xs → (y ≡ x) × (drop (first + 1) xs ≡ ys)
same_item_and_rest {A} first xs ys x y e f =
    let g : ◌≡◌ {A = List A} (y ∷ drop (first + 1) xs) (x ∷ ys) = sym f ∙ e in (cc, cc)

-- the items after the first `first` + 1 are those that follow item `first`
pub drop_one_more : {A : Type 0} (first : ℕ) (xs ys : List A) (x : A) → drop first xs ≡ x ∷ ys → drop (first + 1) xs ≡ ys
drop_one_more first xs ys x e =
    let f = drop_more xs first x (index_inside first xs ys x e) in (same_item_and_rest first xs ys x _ e f).1

-- the first `first` + 1 items are the first `first` items, and then item `first`
pub take_one_more : {A : Type 0} (first : ℕ) (xs ys : List A) (x : A) → drop first xs ≡ x ∷ ys → take (first + 1) xs ≡ take first xs ++ x ∷ []
take_one_more first xs ys x e =
    let lt = index_inside first xs ys x e in
    let f = drop_more xs first x lt in
    take_more xs first x lt ∙ ap (λ y. take first xs ++ y ∷ []) (same_item_and_rest first xs ys x _ e f).0

-- After a part's step, a stack has the frames `front`, then the layer's own frame, then the frames
-- of the part's operation (none if it has ended). All of these are kept if the part's operation is
-- still pending; if it has ended, only `front` is kept.
pub part_leaves : {P : Type 0} (frames : P → List Frame) (frame : Frame) (front : List Frame) (next : Next P) (given : Option Outcome) (left : List Frame) (first : ℕ)
    → length front ≡ first → given ≡ outcome_of next → left ≡ (front ++ frame ∷ []) ++ left_frames frames next
    → cut_if_ended first given left ≡ front ++ left_frames (λ p. frame ∷ frames p) next
part_leaves frames frame front (Pending p) given left first long is leaves =
    ap (λ g. cut_if_ended first g left) is ∙ leaves ∙ append_assoc front (frame ∷ []) (frames p)
part_leaves frames frame front (Done outcome) given left first long is leaves =
    ap (λ g. cut_if_ended first g left) is ∙ ap (take first) (leaves ∙ append-nil (front ++ frame ∷ []))
    ∙ take-append-le first front (frame ∷ []) (omega (arith, long)) ∙ take_all first front (omega (arith, long)) ∙ sym (append-nil front)
