use Rattle.std.proofs.Common.{◌≡◌, ◌+◌, suc, ap, subst, ◌∙◌, sym, arith}
use Rattle.safe_bit.specs.Parts.{place_after, with_part, LiesIn}
use Rattle.layers.specs.Nested.{first_parts, part_place}
use Rattle.layers.specs.laws.Initial.{next_part, next_inside, no_parts_set}
use Rattle.layers.specs.laws.Over.{over}
use Rattle.layers.proofs.layered.Layered.init_parts.Goals as goal

pub loop-part-preserved : goal.loop-part-preserved
loop-part-preserved g c =
    let l = over (g.met.S.Register.lawful c.args.self.now.below) (g.met.L.Construction.sound c.args.self.now.layer) c.args.self.now.fit in
    let t = g.L.Rules.table c.args.self.now.layer in
    let b = g.S.Behaves.behaviour c.args.self.now.below in
    let at = c.args.at in
    let m = c.args.store.now in
    let v = c.args.value in
    let j = c.loop-part.part in
    let after : suc j ≡ j + 1 = omega arith in
    c.init.ensures
    ∙ ap (λ q. with_part q (b.initial c.first.result) c.loop-part.store) c.part_place-place.ensures
    ∙ ap (λ x. with_part (place_after at (part_place b.size j)) (b.initial x) c.loop-part.store) c.first.ensures
    ∙ ap (λ s. with_part (place_after at (part_place b.size j)) (b.initial (t.first v j)) s) c.loop-part.invariant
    ∙ next_part l v c.requires.value j at m (omega arith) c.requires.inside
    ∙ ap (λ n. with_part at (first_parts t b v n) m) after

pub loop-part-init : goal.loop-part-init
loop-part-init g c =
    let l = over (g.met.S.Register.lawful c.args.self.now.below) (g.met.L.Construction.sound c.args.self.now.layer) c.args.self.now.fit in
    let at = c.args.at in
    let m = c.args.store.now in
    let v = c.args.value in
    no_parts_set l v c.requires.value at m

pub init-requires-clause-inside : goal.init-requires-clause-inside
init-requires-clause-inside g c =
    let l = over (g.met.S.Register.lawful c.args.self.now.below) (g.met.L.Construction.sound c.args.self.now.layer) c.args.self.now.fit in
    let b = g.S.Behaves.behaviour c.args.self.now.below in
    let at = c.args.at in
    let m = c.args.store.now in
    let v = c.args.value in
    let j = c.loop-part.part in
    subst (λ q. LiesIn q b.size c.loop-part.store) (sym c.part_place-place.ensures)
    (subst (LiesIn (place_after at (part_place b.size j)) b.size) (sym c.loop-part.invariant)
    (next_inside l v c.requires.value j at m (omega arith) c.requires.inside))
