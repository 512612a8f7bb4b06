-- What a layer's `begin_on` and `go_on` yield on a stack that holds only the operation's frames.
use Rattle.std.proofs.Common.{◌≡◌, ℕ, ◌+◌, ◌≤◌, Bool, true, List, [], ◌++◌, length, take, ap, ◌∙◌, arith, Option}
use Rattle.safe_bit.specs.declared.Place.{Place}
use Rattle.safe_bit.specs.Memory.{Memory}
use Rattle.safe_bit.specs.Parts.{part}
use Rattle.frames.specs.declared.types.Op.{Op}
use Rattle.frames.specs.declared.types.Outcome.{Outcome}
use Rattle.frames.specs.declared.types.Frame.{Frame}
use Rattle.frames.specs.declared.types.TheConstants.{STACK_FRAMES}
use Rattle.frames.specs.Behaviour.{Behaviour}
use Rattle.frames.specs.Flat.{Lands, HasReached, HasFramesFrom, left_frames}
use Rattle.layers.specs.declared.nested.Nested.{Nested}
use Rattle.layers.specs.Nested.{layered}
use Rattle.layers.specs.Sound.{LayerHolds, LayerReaches}
use Rattle.layers.specs.laws.Layered.{layer_lawful}
use Rattle.layers.specs.laws.Over.{LayerOver}

-- if a stack holds only an operation's frames, these are its frames from index 0 on
pub has_frames_from_0 : {P : Type 0} (frames : P → List Frame) (Reaches : ℕ → Op → P → Type 0) (who : ℕ) (stack front : List Frame) (o : Op) (p : P) → Reaches who o p → front ≡ [] → stack ≡ front ++ frames p
    → HasFramesFrom frames Reaches who 0 stack o p
has_frames_from_0 frames Reaches who stack front o p reached none is = record { reached = reached; there = is ∙ ap (λ xs. xs ++ frames p) none }

module _ {Task P : Type 0} (l : LayerOver Task P) (at : Place) (m : Memory) where
  -- the layer, and the points that its processes can reach
  abbrev b : Behaviour (Nested Task P)
  b = layered l.table l.below

  abbrev R : ℕ → Op → Nested Task P → Type 0
  R = LayerReaches l.table l.MayBeAt l.Reaches

  module _ (holds : LayerHolds l.table l.below l.Holds (part at b.size m)) (who : ℕ) (o : Op) (given : Option Outcome) (left : List Frame) (after : Memory) (front : List Frame) (none : front ≡ []) where
    -- an operation that was invoked on an empty stack has reached its first point or its end
    pub begun_has_reached : b.suits who o ≡ true
        → Lands b.frames at (b.begins who o (part at b.size m)).next (b.begins who o (part at b.size m)).memory front m given left after
        → HasReached b R who o given left (b.begins who o (part at b.size m)).next
    begun_has_reached fits lands = record {
      may_be_at = ((layer_lawful l).begins_well who o (part at b.size m) holds fits).may_be_at;
      answer = lands.answer;
      there = lands.stack ∙ ap (λ xs. xs ++ left_frames b.frames (b.begins who o (part at b.size m)).next) none;
    }

    -- an operation that has made a bit action on its frames alone is at its next point or its end
    pub gone_has_reached : (p : Nested Task P) (choice : Bool) (stack : List Frame) → R who o p → stack ≡ front ++ b.frames p
        → (HasFramesFrom b.frames R who 0 stack o p → Lands b.frames at (b.goes p choice (part at b.size m)).next (b.goes p choice (part at b.size m)).memory (take 0 stack) m given left after)
        → HasReached b R who o given left (b.goes p choice (part at b.size m)).next
    gone_has_reached p choice stack reached is lands =
        let landed = lands (has_frames_from_0 b.frames R who stack front o p reached none is) in
        record {
          may_be_at = ((layer_lawful l).goes_well who o p choice (part at b.size m) holds reached).may_be_at;
          answer = landed.answer;
          there = landed.stack;
        }

-- the frames of one operation fit on an empty stack
pub fits_empty_stack : (front : List Frame) (depth : ℕ) → front ≡ [] → depth ≤ STACK_FRAMES → length front + depth ≤ STACK_FRAMES
fits_empty_stack front depth none few = let no_frame : length front ≡ 0 = ap length none in omega (arith, no_frame, few)
