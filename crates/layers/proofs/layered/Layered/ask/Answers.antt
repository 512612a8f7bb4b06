use Rattle.std.proofs.Common.{[], ◌∷◌, ◌++◌, length, length-append, sym, ap, ◌∙◌, arith}
use Rattle.layers.specs.laws.Over.{over}
use Rattle.layers.proofs.PartSteps.{part_keeps, part_lies, part_asked, stack_long}
use Rattle.layers.proofs.layered.Layered.ask.Goals as goal

pub begin_on-end-requires-clause-holds : goal.begin_on-end-requires-clause-holds
begin_on-end-requires-clause-holds g c =
    let r = c.args.self.now in
    let l = over (g.met.S.Register.lawful r.below) (g.met.L.Construction.sound r.layer) r.fit in
    part_keeps l c.args.at c.args.store.now c.requires.lies c.args.task c.asks-ask.result c.asks-ask.ensures c.part_place-place.result c.part_place-place.ensures c.requires.may_be_at.0 c.requires.may_be_at.1.0 c.requires.may_be_at.1.1

pub begin_on-end-requires-clause-inside : goal.begin_on-end-requires-clause-inside
begin_on-end-requires-clause-inside g c =
    let r = c.args.self.now in
    let l = over (g.met.S.Register.lawful r.below) (g.met.L.Construction.sound r.layer) r.fit in
    part_lies l c.args.at c.args.store.now c.requires.lies c.args.task c.asks-ask.result c.asks-ask.ensures c.part_place-place.result c.part_place-place.ensures c.requires.may_be_at.0 c.requires.may_be_at.1.0 c.requires.may_be_at.1.1

pub begin_on-end-requires-clause-room : goal.begin_on-end-requires-clause-room
begin_on-end-requires-clause-room g c =
    let room = c.requires.room in
    omega (arith, ap length c.push.ensures, length-append c.args.stack.now (c.frame.result ∷ []))

pub returns : goal.returns
returns g c =
    let r = c.args.self.now in
    let l = over (g.met.S.Register.lawful r.below) (g.met.L.Construction.sound r.layer) r.fit in
    part_asked l c.args.at c.args.store.now c.requires.lies c.args.task c.asks-ask.result c.asks-ask.ensures c.part_place-place.result c.part_place-place.ensures c.requires.may_be_at.0 c.requires.may_be_at.1.0 c.requires.may_be_at.1.1
    c.args.stack.now c.push.new.self c.begin_on-end.new.stack c.cut_if_ended.new.stack c.len-first.result c.begin_on-end.result c.begin_on-end.new.store
    (c.push.ensures ∙ ap (λ f. c.args.stack.now ++ f ∷ []) c.frame.ensures) (sym c.len-first.ensures) c.begin_on-end.ensures c.cut_if_ended.ensures

pub cut_if_ended-requires : goal.cut_if_ended-requires
cut_if_ended-requires g c =
    stack_long c.args.stack.now _ c.push.new.self c.begin_on-end.new.stack _ c.len-first.result
    (c.push.ensures ∙ ap (λ f. c.args.stack.now ++ f ∷ []) c.frame.ensures) (sym c.len-first.ensures) c.begin_on-end.ensures.stack
