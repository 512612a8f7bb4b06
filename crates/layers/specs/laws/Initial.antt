-- A layer's `init` sets the layer's parts to their initial values, one after the other, and then
-- the layer's own words to their initial values, one after the other. After that, the layer's whole
-- memory is the layer's initial memory.
use Rattle.std.proofs.Common.{◌≡◌, ℕ, suc, ◌+◌, ◌*◌, ◌<◌, ◌≤◌, List, [], ◌∷◌, length, set, refl, sym, ◌∙◌, arith, mul-one, mul-le-mul_right}
use Rattle.safe_bit.specs.declared.Place.{Place}
use Rattle.safe_bit.specs.Memory.{Memory}
use Rattle.safe_bit.specs.Windows.{splice}
use Rattle.safe_bit.specs.Parts.{HasSize, LiesIn, place_after, with_part}
use Rattle.safe_bit.specs.laws.Parts.{same_memory, LiesIn-with_part, LiesIn-place_after}
use Rattle.layers.specs.Nested.{layer_size, own_words_start, part_place, first_parts, layer_initial, gathered}
use Rattle.layers.specs.laws.Nested.{part_within}
use Rattle.layers.specs.laws.Gathered.{length-gathered}
use Rattle.safe_bit.specs.laws.Windows.{set-after, splice-after, splice-nothing}
use Rattle.layers.specs.laws.Over.{LayerOver}

module _ {Task P : Type 0} (l : LayerOver Task P)
    (v : ℕ) (value : v < l.table.values) where
  initial_part_size : (j : ℕ) → j < l.table.parts → HasSize l.below.size (l.below.initial (l.table.first v j))
  initial_part_size j few = l.lawful.size_holds _ (l.lawful.initial_holds (l.table.first v j) (rw l.fit.same_values (l.sound.first_fits v j value few)))

  pub first_parts_size : (n : ℕ) → n ≤ l.table.parts → HasSize (part_place l.below.size n) (first_parts l.table l.below v n)
  first_parts_size n few = record {
    cells = length-gathered (λ j. (l.below.initial (l.table.first v j)).cells) l.below.size.cell n (λ j lt. (initial_part_size j (omega arith)).cells);
    words = length-gathered (λ j. (l.below.initial (l.table.first v j)).words) l.below.size.word n (λ j lt. (initial_part_size j (omega arith)).words);
  }

  parts_fit : (n : ℕ) → n ≤ l.table.parts → (n * l.below.size.cell ≤ l.table.parts * l.below.size.cell) × (n * l.below.size.word ≤ l.table.parts * l.below.size.word)
  parts_fit n few = (mul-le-mul_right l.below.size.cell few, mul-le-mul_right l.below.size.word few)

  -- the first n parts lie inside the store
  pub parts_inside : (n : ℕ) (at : Place) (m : Memory) → n ≤ l.table.parts → LiesIn at (layer_size l.table l.below.size) m → LiesIn at (part_place l.below.size n) m
  parts_inside n at m few lies = let f = parts_fit n few in record { cells = let c = lies.cells in omega (arith, f.0); words = let w = lies.words in omega (arith, f.1) }

  -- part j lies inside the store after the parts before part j are set to their initial values
  pub next_inside : (j : ℕ) (at : Place) (m : Memory) → j < l.table.parts → LiesIn at (layer_size l.table l.below.size) m → LiesIn (place_after at (part_place l.below.size j)) l.below.size (with_part at (first_parts l.table l.below v j) m)
  next_inside j at m lt lies =
      LiesIn-with_part at (part_place l.below.size j) (place_after at (part_place l.below.size j)) l.below.size (first_parts l.table l.below v j) m
      (first_parts_size j (omega arith)) (parts_inside j at m (omega arith) lies)
      (LiesIn-place_after at (layer_size l.table l.below.size) (part_place l.below.size j) l.below.size m lies (part_within l.table l.below.size j lt))

  -- setting the first j parts to their initial values, and then part j, has the same effect as
  -- setting the first j + 1 parts
  pub next_part : (j : ℕ) (at : Place) (m : Memory) → j < l.table.parts → LiesIn at (layer_size l.table l.below.size) m
      → with_part (place_after at (part_place l.below.size j)) (l.below.initial (l.table.first v j)) (with_part at (first_parts l.table l.below v j) m) ≡ with_part at (first_parts l.table l.below v (suc j)) m
  next_part j at m lt lies =
      let z = first_parts_size j (omega arith) in
      let i = parts_inside j at m (omega arith) lies in
      same_memory _ _
      (splice-after at.cell (j * l.below.size.cell) (first_parts l.table l.below v j).cells (l.below.initial (l.table.first v j)).cells m.cells z.cells (let c = i.cells in let l = z.cells in omega arith))
      (splice-after at.word (j * l.below.size.word) (first_parts l.table l.below v j).words (l.below.initial (l.table.first v j)).words m.words z.words (let c = i.words in let l = z.words in omega arith))

  -- setting the first 0 parts to their initial values changes nothing
  pub no_parts_set : (at : Place) (m : Memory) → m ≡ with_part at (first_parts l.table l.below v 0) m
  no_parts_set at m = same_memory _ _ (sym (splice-nothing at.cell m.cells)) (sym (splice-nothing at.word m.words))

  -- setting all parts, and then the layer's own words, to their initial values has the same effect
  -- as setting the layer's memory to its initial memory
  pub words_after_parts : (at : Place) (m : Memory) → LiesIn at (layer_size l.table l.below.size) m
      → record (with_part at (first_parts l.table l.below v l.table.parts) m) { words = splice (at.word + own_words_start l.table l.below.size) (gathered (λ k. l.table.first_word v k ∷ []) l.table.words) (with_part at (first_parts l.table l.below v l.table.parts) m).words }
      ≡ with_part at (layer_initial l.table l.below v) m
  words_after_parts at m lies =
      let z = first_parts_size l.table.parts (omega arith) in
      same_memory _ _ refl
      (splice-after at.word (own_words_start l.table l.below.size) (first_parts l.table l.below v l.table.parts).words (gathered (λ k. l.table.first_word v k ∷ []) l.table.words) m.words z.words
      (let w = lies.words in let l = z.words in omega arith))

-- setting the first k own words, which begin at index `base`, and then own word k has the same
-- effect as setting the first k + 1 own words
pub next_word : (w : ℕ → ℕ) (base k : ℕ) (xs : List ℕ) → base + k < length xs
    → set (splice base (gathered (λ q. w q ∷ []) k) xs) (base + k) (w k) ≡ splice base (gathered (λ q. w q ∷ []) (suc k)) xs
next_word w base k xs lt = set-after base k (w k) (gathered (λ q. w q ∷ []) k) xs (length-gathered (λ q. w q ∷ []) 1 k (λ j few. refl) ∙ mul-one k) lt
