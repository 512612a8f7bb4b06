use Rattle.std.proofs.Common.{IsSome, sym, ◌∙◌, subst}
use Rattle.schedule_trie.specs.Trie.{segment_at}
use Rattle.schedule_trie.proofs.climbs.ClimbSteps.{each_up, first_up}
use Rattle.schedule_trie.proofs.segments.StepSet.{item_there}
use Rattle.schedule_trie.proofs.trie.Trie.step_up_from.Goals as goal

pub returns-clause-each : goal.returns-clause-each
returns-clause-each g c i front back e =
    c.get-2.ensures
    ∙ each_up c.self.inside c.args.self.now c.self.view_is c.self.invariant.held c.args.key c.step_up_from-above.result.1 c.step_up_from-above.ensures.each i front back e

pub returns-clause-first : goal.returns-clause-first
returns-clause-first g c =
    c.get-2.ensures
    ∙ first_up c.self.inside c.args.self.now c.self.view_is c.self.invariant.held c.args.key c.step_up_from-above.result.1 c.step_up_from-above.ensures.each
    (λ none. let there = c.step_up_from-above.ensures.item in absurd (cc))

pub step_up_from-above-requires : goal.step_up_from-above-requires
step_up_from-above-requires g c =
    item_there c.self.inside c.args.key (subst (λ z. IsSome (segment_at z.segments c.args.key)) (sym c.self.view_is) c.requires)
