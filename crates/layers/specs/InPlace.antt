-- What it means that a layer lies at a place in a store, and what its own memory there is.
use Rattle.safe_bit.specs.declared.Place.{Place}
use Rattle.safe_bit.specs.Memory.{Memory}
use Rattle.safe_bit.specs.Parts.{LiesIn, IsPlaced, part}
use Rattle.frames.specs.Behaviour.{Behaviour}
use Rattle.layers.specs.Nested.{Table, layer_size}
use Rattle.layers.specs.Sound.{LayerHolds}

-- the part of memory m that is the layer's, if the layer lies at place `at`
abbrev pub own : {Task P : Type 0} → Table Task → Behaviour P → Place → Memory → Memory
own t b at m = part at (layer_size t b.size) m

-- a layer lies at a place: its memory there is inside the store, ends below 2^32, and satisfies
-- `LayerHolds`
pub record LayerLies {Task P : Type 0} (t : Table Task) (b : Behaviour P) (Holds : Memory → Type 0) (at : Place) (m : Memory) : Type 0 where
  pub inside : LiesIn at (layer_size t b.size) m
  pub placed : IsPlaced at (layer_size t b.size)
  pub holds : LayerHolds t b Holds (own t b at m)
