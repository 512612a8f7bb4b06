use Rattle.std.proofs.Common.{None, sym, refl}
use Rattle.schedule_trie.proofs.climbs.ClimbSteps.{each_up, none_up, first_up}
use Rattle.schedule_trie.proofs.trie.Trie.step_up.Goals as goal

pub returns-in-Some-clause-first : goal.returns-in-Some-clause-first
returns-in-Some-clause-first g c =
    first_up c.self.inside c.args.self.now c.self.view_is c.self.invariant.held c.args.key c.in-Some.above c.in-Some.ensures.each
    (λ none. let there = c.in-Some.ensures.item in absurd (cc))

pub returns-in-Some-clause-each : goal.returns-in-Some-clause-each
returns-in-Some-clause-each g c =
    each_up c.self.inside c.args.self.now c.self.view_is c.self.invariant.held c.args.key c.in-Some.above c.in-Some.ensures.each

pub returns-in-None-clause-first : goal.returns-in-None-clause-first
returns-in-None-clause-first g c =
    let t = c.self.inside in
    let held = c.self.invariant.held in
    first_up t c.args.self.now c.self.view_is held c.args.key None
    (none_up t c.args.self.now c.self.view_is held c.args.key None (sym c.in-None.ensures.item)) (λ none. refl)

pub returns-in-None-clause-each : goal.returns-in-None-clause-each
returns-in-None-clause-each g c =
    let t = c.self.inside in
    let held = c.self.invariant.held in
    each_up t c.args.self.now c.self.view_is held c.args.key None
    (none_up t c.args.self.now c.self.view_is held c.args.key None (sym c.in-None.ensures.item))
