use Rattle.std.proofs.Common.{rules}
use Rattle.turn.proofs.RuleSteps.{splits}
use Rattle.turn.proofs.steps.split.Goals as goal

pub split_seat-requires : goal.split_seat-requires
split_seat-requires g c = (search rules, search rules, splits g.T.Counted.by g.T.Counted.entries _ _ g.G.Given.given c.requires.idle c.requires.own)
