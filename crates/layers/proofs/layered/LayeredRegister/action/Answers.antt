use Rattle.std.proofs.Common.{◌<◌, sym, subst}
use Rattle.safe_bit.specs.Parts.{IsPlaced}
use Rattle.safe_bit.specs.laws.Parts.{IsPlaced-place_after}
use Rattle.layers.specs.Nested.{layer_size, part_place}
use Rattle.layers.specs.laws.Nested.{part_within}
use Rattle.layers.proofs.layered.LayeredRegister.action.Goals as goal

pub action-requires-clause-placed : goal.action-requires-clause-placed
action-requires-clause-placed g c =
    let r = c.args.self.now in
    let t = g.L.Rules.table r.layer in
    let size = (g.S.Behaves.behaviour r.below).size in
    let j = c.asks-ask.result.part in
    let on = c.requires.reached.1.1 in
    let sound = g.met.L.Construction.sound r.layer in
    let fits = sound.asks_fit c.requires.reached.0 c.requires.reached.1.0 c.args.pending.now.task on.may_be_at in
    let few : j < t.parts = subst (λ a. a.part < t.parts) (sym c.asks-ask.ensures) fits.0 in
    subst (λ q. IsPlaced q size) (sym c.part_place-place.ensures)
    (IsPlaced-place_after c.args.at (layer_size t size) (part_place size j) size c.requires.placed
    (part_within t size j few))
