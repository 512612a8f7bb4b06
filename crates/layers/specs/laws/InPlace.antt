-- Laws of a layer that lies at a place in a store: how its parts and own words are read there and
-- put back.
use Rattle.std.proofs.Common.{◌≡◌, ℕ, ◌+◌, ◌<◌, ◌≤◌, Bool, true, length, Option, Some, None, refl, sym, ap, subst, ◌∙◌, arith, add_assoc}
use Rattle.safe_bit.specs.declared.Place.{Place}
use Rattle.safe_bit.specs.Memory.{Memory, word_at}
use Rattle.safe_bit.specs.Parts.{LiesIn, IsPlaced, place_after, part, with_part}
use Rattle.safe_bit.specs.laws.Parts.{LiesIn-place_after, LiesIn-with_part, IsPlaced-place_after, part-part, with_part-part, part-with_part, word_at-part}
use Rattle.frames.specs.declared.types.Op.{Op}
use Rattle.layers.specs.declared.nested.Ask.{Ask}
use Rattle.frames.specs.Placed.{placed_bit}
use Rattle.layers.specs.Nested.{layer_size, own_words_start, part_place, asked, part_goes}
use Rattle.layers.specs.Sound.{WordsHold, LayerHolds}
use Rattle.layers.specs.laws.Nested.{part_within}
use Rattle.layers.specs.InPlace.{LayerLies, own}
use Rattle.layers.specs.laws.Over.{LayerOver}

module _ {Task P : Type 0} (l : LayerOver Task P)
    (at : Place) (m : Memory) (lies : LayerLies l.table l.below l.Holds at m) where
  -- part j of the layer lies inside the store m
  pub part_inside : (j : ℕ) → j < l.table.parts → LiesIn (place_after at (part_place l.below.size j)) l.below.size m
  part_inside j lt = LiesIn-place_after at (layer_size l.table l.below.size) (part_place l.below.size j) l.below.size m lies.inside (part_within l.table l.below.size j lt)

  pub part_placed : (j : ℕ) → j < l.table.parts → IsPlaced (place_after at (part_place l.below.size j)) l.below.size
  part_placed j lt = IsPlaced-place_after at (layer_size l.table l.below.size) (part_place l.below.size j) l.below.size lies.placed (part_within l.table l.below.size j lt)

  pub part_of_own : (j : ℕ) → j < l.table.parts → part (part_place l.below.size j) l.below.size (own l.table l.below at m) ≡ part (place_after at (part_place l.below.size j)) l.below.size m
  part_of_own j lt = part-part at (layer_size l.table l.below.size) (part_place l.below.size j) l.below.size m (part_within l.table l.below.size j lt)

  pub part_holds : (j : ℕ) → j < l.table.parts → l.Holds (part (place_after at (part_place l.below.size j)) l.below.size m)
  part_holds j lt = subst l.Holds (part_of_own j lt) (lies.holds.parts j lt)

  -- putting new memory of part j into the store has the same effect as putting it into the layer's
  -- memory, and then putting the layer's memory into the store
  pub put_part : (j : ℕ) (inner : Memory) → j < l.table.parts → l.Holds inner
      → with_part (place_after at (part_place l.below.size j)) inner m ≡ with_part at (with_part (part_place l.below.size j) inner (own l.table l.below at m)) m
  put_part j inner lt h =
      sym (with_part-part at (layer_size l.table l.below.size) (part_place l.below.size j) l.below.size inner m (l.lawful.size_holds inner h) lies.inside (part_within l.table l.below.size j lt))

  -- the layer still lies at its place after its memory is replaced by one that satisfies
  -- `LayerHolds`
  pub lies_with : (inner : Memory) → LayerHolds l.table l.below l.Holds inner → LayerLies l.table l.below l.Holds at (with_part at inner m)
  lies_with inner h = record {
    inside = LiesIn-with_part at (layer_size l.table l.below.size) at (layer_size l.table l.below.size) inner m h.size lies.inside lies.inside;
    placed = lies.placed;
    holds = subst (LayerHolds l.table l.below l.Holds) (sym (part-with_part at (layer_size l.table l.below.size) inner m h.size lies.inside)) h;
  }

  pub own_with : (inner : Memory) → LayerHolds l.table l.below l.Holds inner → own l.table l.below at (with_part at inner m) ≡ inner
  own_with inner h = part-with_part at (layer_size l.table l.below.size) inner m h.size lies.inside

  -- the layer's own words lie inside the store
  pub words_inside : at.word + own_words_start l.table l.below.size + l.table.words ≤ length m.words
  words_inside = let h = lies.inside.words in omega arith

  pub words_there : WordsHold l.table (at.word + own_words_start l.table l.below.size) m
  words_there k lt =
      subst (λ x. x < l.table.bound k)
      (word_at-part at (layer_size l.table l.below.size) (own_words_start l.table l.below.size + k) m (omega arith) ∙ ap (λ i. word_at i m) (sym (add_assoc at.word (own_words_start l.table l.below.size) k)))
      (lies.holds.words k lt)

  -- an operation that is invoked on a part reaches the same point or end, whether the part's memory
  -- is taken from the store or from the layer's memory
  pub asked_next : (a : Ask) → a.part < l.table.parts → (l.below.begins a.who a.op (part (place_after at (part_place l.below.size a.part)) l.below.size m)).next ≡ (asked l.below a (own l.table l.below at m)).next
  asked_next a lt = ap (λ inner. (l.below.begins a.who a.op inner).next) (sym (part_of_own a.part lt))

  pub asked_memory : (a : Ask) → a.part < l.table.parts → l.below.suits a.who a.op ≡ true
      → with_part (place_after at (part_place l.below.size a.part)) (l.below.begins a.who a.op (part (place_after at (part_place l.below.size a.part)) l.below.size m)).memory m
      ≡ with_part at (asked l.below a (own l.table l.below at m)).memory m
  asked_memory a lt fits =
      put_part a.part _ lt (l.lawful.begins_well a.who a.op (part (place_after at (part_place l.below.size a.part)) l.below.size m) (part_holds a.part lt) fits).holds
      ∙ ap (λ inner. with_part at (with_part (part_place l.below.size a.part) (l.below.begins a.who a.op inner).memory (own l.table l.below at m)) m) (sym (part_of_own a.part lt))

  -- a bit action of part j reaches the same point or end, whether the part's memory is taken from
  -- the store or from the layer's memory
  pub part_goes_next : (j : ℕ) (p : P) (choice : Bool) → j < l.table.parts → (l.below.goes p choice (part (place_after at (part_place l.below.size j)) l.below.size m)).next ≡ (part_goes l.below j p choice (own l.table l.below at m)).next
  part_goes_next j p choice lt = ap (λ inner. (l.below.goes p choice inner).next) (sym (part_of_own j lt))

  bit_of_place_after : (q : Place) (chosen : Option (ℕ × Bool)) → placed_bit (place_after at q) chosen ≡ placed_bit at (placed_bit q chosen)
  bit_of_place_after q None = refl
  bit_of_place_after q (Some bit) = ap (λ i. Some (i, bit.1)) (add_assoc at.cell q.cell bit.0)

  pub part_goes_chosen : (j : ℕ) (p : P) (choice : Bool) → j < l.table.parts
      → placed_bit (place_after at (part_place l.below.size j)) (l.below.goes p choice (part (place_after at (part_place l.below.size j)) l.below.size m)).chosen ≡ placed_bit at (part_goes l.below j p choice (own l.table l.below at m)).chosen
  part_goes_chosen j p choice lt =
      bit_of_place_after (part_place l.below.size j) _ ∙ ap (λ inner. placed_bit at (placed_bit (part_place l.below.size j) (l.below.goes p choice inner).chosen)) (sym (part_of_own j lt))

  pub part_goes_memory : (j : ℕ) (p : P) (choice : Bool) (who : ℕ) (o : Op) → j < l.table.parts → l.Reaches who o p
      → with_part (place_after at (part_place l.below.size j)) (l.below.goes p choice (part (place_after at (part_place l.below.size j)) l.below.size m)).memory m
      ≡ with_part at (part_goes l.below j p choice (own l.table l.below at m)).memory m
  part_goes_memory j p choice who o lt there =
      put_part j _ lt (l.lawful.goes_well who o p choice (part (place_after at (part_place l.below.size j)) l.below.size m) (part_holds j lt) there).holds
      ∙ ap (λ inner. with_part at (with_part (part_place l.below.size j) (l.below.goes p choice inner).memory (own l.table l.below at m)) m) (sym (part_of_own j lt))
