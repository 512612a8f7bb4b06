-- A step of a task's part, in a store and on a stack, as a step of the part's layer.
use Rattle.std.proofs.Common.{◌≡◌, ℕ, Bool, true, ◌+◌, ◌<◌, ◌≤◌, List, [], ◌∷◌, ◌++◌, length, take, Option, sym, ap, subst, ◌∙◌, arith, append-nil, length-take, length-append}
use Rattle.std.specs.Prelude.{IfSome}
use Rattle.safe_bit.specs.declared.Place.{Place}
use Rattle.safe_bit.specs.Memory.{Memory}
use Rattle.safe_bit.specs.Parts.{LiesIn, place_after, part, with_part}
use Rattle.frames.specs.declared.types.Op.{Op}
use Rattle.frames.specs.declared.types.Outcome.{Outcome}
use Rattle.frames.specs.declared.types.Frame.{Frame}
use Rattle.frames.specs.declared.types.Next.{Next}
use Rattle.frames.specs.declared.types.Next.TheVariants.{Pending, Done}
use Rattle.frames.specs.Flat.{Lands, HasFramesFrom, outcome_of, left_frames}
use Rattle.frames.specs.Placed.{placed_bit}
use Rattle.layers.specs.declared.nested.Ask.{Ask}
use Rattle.layers.specs.Nested.{part_place, asked, part_goes, layered}
use Rattle.layers.specs.Sound.{LayerReaches}
use Rattle.layers.specs.InPlace.{own, LayerLies}
use Rattle.layers.specs.Flat.{task_frames, cut_if_ended}
use Rattle.layers.specs.laws.Nested.{asks_fit}
use Rattle.layers.specs.laws.Flat.{part_leaves, index_inside, drop_one_more, take_one_more}
use Rattle.layers.specs.laws.InPlace.{part_holds, part_inside, asked_next, asked_memory, part_goes_next, part_goes_chosen, part_goes_memory}
use Rattle.layers.specs.laws.Over.{LayerOver}

-- an operation that has ended leaves only the frames that were below its own
ended_leaves_front : {P : Type 0} (frames : P → List Frame) (next : Next P) (front : List Frame) (given : Option Outcome) (left : List Frame) → given ≡ outcome_of next
    → left ≡ front ++ left_frames frames next → IfSome given (λ _. left ≡ front)
ended_leaves_front frames (Pending p) front given left is leaves = subst (λ g. IfSome g (λ _. left ≡ front)) (sym is) tt
ended_leaves_front frames (Done o) front given left is leaves = subst (λ g. IfSome g (λ _. left ≡ front)) (sym is) (leaves ∙ append-nil front)

-- a stack has at least `first` frames after a layer's own frame was pushed at that index
pub stack_long : (stack rest with_own left : List Frame) (frame : Frame) (first : ℕ) → with_own ≡ stack ++ frame ∷ [] → length stack ≡ first → left ≡ with_own ++ rest → first ≤ length left
stack_long stack rest with_own left frame first owns long leaves =
    let whole = ap length leaves in
    let own = ap length owns in
    omega (arith, long, whole, own, length-append with_own rest, length-append stack (frame ∷ []))

-- `a` is what the task asks, and `q` is the part's place
module _ {Task P : Type 0} (l : LayerOver Task P) (at : Place) (m : Memory) (lies : LayerLies l.table l.below l.Holds at m)
    (task : Task) (a : Ask) (e : a ≡ l.table.asks task) (q : Place) (is : q ≡ place_after at (part_place l.below.size a.part)) where
  module _ (who : ℕ) (o : Op) (at_task : l.MayBeAt who o task) where
    part_exists : a.part < l.table.parts
    part_exists = rw e (asks_fit l who o task at_task).0

    -- the part's memory satisfies `Holds`
    pub part_keeps : l.Holds (part q l.below.size m)
    part_keeps = subst (λ x. l.Holds (part x l.below.size m)) (sym is) (part_holds l at m lies a.part part_exists)

    -- the part lies in the memory
    pub part_lies : LiesIn q l.below.size m
    part_lies = subst (λ x. LiesIn x l.below.size m) (sym is) (part_inside l at m lies a.part part_exists)

    -- the part is asked after the layer's own frame is pushed; that frame is dropped if the part's
    -- operation has ended
    pub part_asked : (stack with_own left closed : List Frame) (first : ℕ) (given : Option Outcome) (after : Memory)
        → with_own ≡ stack ++ l.table.frame task ∷ [] → length stack ≡ first
        → Lands l.below.frames q (l.below.begins a.who a.op (part q l.below.size m)).next (l.below.begins a.who a.op (part q l.below.size m)).memory with_own m given left after
        → closed ≡ cut_if_ended first given left
        → Lands (task_frames l.table l.below task) at (asked l.below (l.table.asks task) (own l.table l.below at m)).next (asked l.below (l.table.asks task) (own l.table l.below at m)).memory stack m given closed after
    part_asked stack with_own left closed first given after owns long lands closes =
        let b = l.below in
        let here = own l.table b at m in
        let suits : b.suits a.who a.op ≡ true = rw e (asks_fit l who o task at_task).1 in
        let next = ap (λ x. (b.begins a.who a.op (part x b.size m)).next) is ∙ asked_next l at m lies a part_exists ∙ ap (λ x. (asked b x here).next) e in
        let answer = lands.answer ∙ ap outcome_of next in
        record {
          answer = answer;
          stack = closes ∙ part_leaves b.frames (l.table.frame task) stack (asked b (l.table.asks task) here).next given left first long answer
              (lands.stack ∙ (λ i. owns i ++ left_frames b.frames (next i)));
          memory = lands.memory ∙ ap (λ x. with_part x (b.begins a.who a.op (part x b.size m)).memory m) is
              ∙ asked_memory l at m lies a part_exists suits ∙ ap (λ x. with_part at (asked b x here).memory m) e;
        }

  module _ (choice : Bool) (first : ℕ) (stack : List Frame) (who : ℕ) (o : Op) (p : P)
      (on : HasFramesFrom (layered l.table l.below).frames (LayerReaches l.table l.MayBeAt l.Reaches) who first stack o (record { task = task; below = p })) where
    -- the part's frames follow the layer's own
    pub part_has_frames : HasFramesFrom l.below.frames l.Reaches a.who (first + 1) stack a.op p
    part_has_frames = record { reached = rw e on.reached.below; there = drop_one_more first stack (l.below.frames p) (l.table.frame task) on.there }

    -- the part's bit action reports the choice that `part_goes` gives for the layer
    pub part_chooses : (chosen : Option (ℕ × Bool)) → (HasFramesFrom l.below.frames l.Reaches a.who (first + 1) stack a.op p → chosen ≡ placed_bit q (l.below.goes p choice (part q l.below.size m)).chosen)
        → chosen ≡ placed_bit at (part_goes l.below (l.table.asks task).part p choice (own l.table l.below at m)).chosen
    part_chooses chosen chooses =
        chooses part_has_frames ∙ ap (λ x. placed_bit x (l.below.goes p choice (part x l.below.size m)).chosen) is
        ∙ part_goes_chosen l at m lies a.part p choice (part_exists who o on.reached.may_be_at)
        ∙ ap (λ x. placed_bit at (part_goes l.below x.part p choice (own l.table l.below at m)).chosen) e

    -- the part makes its bit action; the layer's own frame is dropped if the part's operation has
    -- ended
    pub part_moved : (given : Option Outcome) (left closed : List Frame) (after : Memory)
        → (HasFramesFrom l.below.frames l.Reaches a.who (first + 1) stack a.op p
        → Lands l.below.frames q (l.below.goes p choice (part q l.below.size m)).next (l.below.goes p choice (part q l.below.size m)).memory (take (first + 1) stack) m given left after)
        → closed ≡ cut_if_ended first given left
        → Lands (task_frames l.table l.below task) at (part_goes l.below (l.table.asks task).part p choice (own l.table l.below at m)).next
        (part_goes l.below (l.table.asks task).part p choice (own l.table l.below at m)).memory (take first stack) m given closed after
    part_moved given left closed after lands_there closes =
        let b = l.below in
        let lands = lands_there part_has_frames in
        let here = own l.table b at m in
        let lt = part_exists who o on.reached.may_be_at in
        let next = ap (λ x. (b.goes p choice (part x b.size m)).next) is ∙ part_goes_next l at m lies a.part p choice lt ∙ ap (λ x. (part_goes b x.part p choice here).next) e in
        let answer = lands.answer ∙ ap outcome_of next in
        let there = index_inside first stack (b.frames p) (l.table.frame task) on.there in
        let front = take_one_more first stack (b.frames p) (l.table.frame task) on.there in
        record {
          answer = answer;
          stack = closes ∙ part_leaves b.frames (l.table.frame task) (take first stack) (part_goes b (l.table.asks task).part p choice here).next given left first
              (omega (arith, there, length-take first stack)) answer (lands.stack ∙ (λ i. front i ++ left_frames b.frames (next i)));
          memory = lands.memory ∙ ap (λ x. with_part x (b.goes p choice (part x b.size m)).memory m) is
              ∙ part_goes_memory l at m lies a.part p choice a.who a.op lt part_has_frames.reached
              ∙ ap (λ x. with_part at (part_goes b x.part p choice here).memory m) e;
        }

    -- if the part's operation has ended, the layer's own frame is the last one on the stack
    pub part_ended : (given : Option Outcome) (left : List Frame) (after : Memory)
        → (HasFramesFrom l.below.frames l.Reaches a.who (first + 1) stack a.op p
        → Lands l.below.frames q (l.below.goes p choice (part q l.below.size m)).next (l.below.goes p choice (part q l.below.size m)).memory (take (first + 1) stack) m given left after)
        → IfSome given (λ _. left ≡ take (first + 1) stack)
    part_ended given left after lands_there =
        let lands = lands_there part_has_frames in
        ended_leaves_front l.below.frames (l.below.goes p choice (part q l.below.size m)).next (take (first + 1) stack) given left lands.answer lands.stack
