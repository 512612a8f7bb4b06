use Rattle.std.proofs.Common.{rules, ap, length, ◌∙◌}
use Rattle.turn.proofs.RuleSteps.{publishes}
use Rattle.turn.proofs.steps.publish.Goals as goal

pub store-requires : goal.store-requires
store-requires g c =
    (search rules, search rules, publishes g.T.Counted.by g.T.Counted.entries _ _ _ _ g.N.Added.added _ c.requires.holds c.requires.own c.requires.added.1 (c.len.ensures ∙ ap length c.requires.added.0))
