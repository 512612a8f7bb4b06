-- The layers of a unary number over regular bits, which are over copies of safe bits. Each layer
-- fits on the layer below, and equal unary numbers behave alike.
use Rattle.std.specs.Prelude.{◌≡◌, ℕ, Bool, true, List, Option}
use Rattle.std.proofs.Common.{refl, nat_eq}
use Rattle.std.proofs.lemmas.Bool.{and_parts}
use mathlib.Core.Bool.{◌&&◌}
use Rattle.frames.specs.Behaviour.{Behaviour}
use Rattle.frames.specs.declared.types.Frame.{Frame}
use Rattle.frames.specs.SafeBit.{safe_behaviour, safe_point}
use Rattle.frames.specs.laws.Safe.{safe_lawful}
use Rattle.layers.specs.Flat.{layered_point}
use Rattle.layers.specs.Nested.{layered}
use Rattle.layers.specs.laws.Equality.{layered_alike}
use Rattle.layers.specs.laws.Flat.{points_alike}
use Rattle.layers.specs.laws.Layered.{layer_lawful}
use Rattle.layers.specs.laws.Over.{LayerOver, over}
use Rattle.frames.specs.declared.safe.SafePoint.{SafePoint}
use Rattle.reader_copies.specs.declared.task.CopiesTask.{CopiesTask}
use Rattle.reader_copies.specs.Program.{copies_table}
use Rattle.reader_copies.specs.laws.Sound as copies
use Rattle.regular_bit.specs.declared.task.RegularTask.{RegularTask}
use Rattle.regular_bit.specs.Program.{regular_table}
use Rattle.regular_bit.specs.laws.Sound as regular
use Rattle.unary_number.specs.declared.task.UnaryTask.{UnaryTask}
use Rattle.unary_number.specs.Program.{unary_table}
use Rattle.unary_number.specs.laws.Sound as unary
use Rattle.towers.specs.Towers.{CopiesPoint, RegularPoint, UnaryPoint}
use Rattle.towers.specs.declared.unary_tower.UnaryTower.{UnaryTower}

-- a unary number's lowest layer, the copies, with the proof that it fits on safe bits
abbrev pub on_bits : UnaryTower → LayerOver CopiesTask SafePoint
on_bits r =
    let c = r.layers.below.below in
    over safe_lawful (copies.copies_sound c.layer.readers c.layer.values c.layer.some c.layer.few) c.fit

-- a unary number's layer of regular bits, with the proof that it fits on the copies
abbrev pub on_copies : UnaryTower → LayerOver RegularTask CopiesPoint
on_copies r =
    let b = r.layers.below in
    over (layer_lawful (on_bits r)) (regular.regular_sound b.layer.processes b.layer.some) b.fit

-- a unary number's top layer, with the proof that it fits on the regular bits
abbrev pub on_regular : UnaryTower → LayerOver UnaryTask RegularPoint
on_regular r =
    let u = r.layers in
    over (layer_lawful (on_copies r)) (unary.unary_sound u.layer.values u.layer.processes u.layer.two u.layer.some) u.fit

-- the behaviour of a unary number: each layer's rules over the behaviour of the layer below
abbrev pub unary_behaviour : UnaryTower → Behaviour UnaryPoint
unary_behaviour r = let u = r.layers in let b = u.below in let c = b.below in
    layered (unary_table u.layer.values u.layer.processes) (layered (regular_table b.layer.processes) (layered (copies_table c.layer.readers c.layer.values) safe_behaviour))

-- the point of a process's operation on a unary number, as a list of frames describes it; `None` if
-- the frames describe no point
abbrev pub unary_point : UnaryTower → ℕ → List Frame → Option UnaryPoint
unary_point r = let u = r.layers in let b = u.below in let c = b.below in
    layered_point (unary_table u.layer.values u.layer.processes)
    (layered_point (regular_table b.layer.processes) (layered_point (copies_table c.layer.readers c.layer.values) safe_point))

-- whether two unary numbers are equal, layer by layer; `safe` says whether their safe bits are
-- equal
abbrev pub unary_tower_eq : Bool → UnaryTower → UnaryTower → Bool
unary_tower_eq safe r s = let u = r.layers in let v = s.layers in let b = u.below in let d = v.below in
    ((safe && copies.copies_layer_eq b.below.layer.readers d.below.layer.readers b.below.layer.values d.below.layer.values) && nat_eq b.layer.processes d.layer.processes)
    && (nat_eq u.layer.values v.layer.values && nat_eq u.layer.processes v.layer.processes)

-- equal unary numbers have the same behaviour, and in both the same frames describe the same point
pub same_layers : (safe : Bool) (r s : UnaryTower) → unary_tower_eq safe r s ≡ true → (unary_behaviour r ≡ unary_behaviour s) × (unary_point r ≡ unary_point s)
same_layers safe r s h =
    let u = r.layers in
    let v = s.layers in
    let b = u.below in
    let d = v.below in
    let over_regular = and_parts _ (nat_eq u.layer.values v.layer.values && nat_eq u.layer.processes v.layer.processes) h in
    let over_copies = and_parts _ (nat_eq b.layer.processes d.layer.processes) over_regular.0 in
    let over_bits = and_parts safe (copies.copies_layer_eq b.below.layer.readers d.below.layer.readers b.below.layer.values d.below.layer.values) over_copies.0 in
    let same_unary = unary.unary_table_alike u.layer.values v.layer.values u.layer.processes v.layer.processes over_regular.1 in
    let same_regular = regular.regular_table_alike b.layer.processes d.layer.processes over_copies.1 in
    let same_copies = copies.copies_table_alike b.below.layer.readers d.below.layer.readers b.below.layer.values d.below.layer.values over_bits.1 in (
      layered_alike _ _ _ _ same_unary (layered_alike _ _ _ _ same_regular (layered_alike _ _ safe_behaviour safe_behaviour same_copies refl)),
      points_alike _ _ _ _ same_unary (points_alike _ _ _ _ same_regular (points_alike _ _ safe_point safe_point same_copies refl)),
    )
