use Rattle.std.proofs.Common.{rules}
use Rattle.turn.proofs.RuleSteps.{joins}
use Rattle.turn.proofs.steps.join.Goals as goal

pub join_seat-requires : goal.join_seat-requires
join_seat-requires g c =
    (search rules, search rules, search rules, search rules, joins g.T.Counted.by g.T.Counted.entries _ _ _ _ c.requires.idle.0 c.requires.idle.1 c.requires.some.0 c.requires.some.1)
