use Rattle.std.proofs.Common.{rules}
use Rattle.turn.proofs.RuleSteps.{releases}
use Rattle.turn.proofs.steps.release.Goals as goal

pub store-requires : goal.store-requires
store-requires g c =
    (search rules, search rules, releases g.T.Counted.by g.T.Counted.entries _ _ _ c.requires.full.0 c.requires.holds c.requires.full.1 c.requires.full.2)
