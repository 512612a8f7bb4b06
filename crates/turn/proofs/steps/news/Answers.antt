use Rattle.std.proofs.Common.{rules}
use Rattle.turn.proofs.RuleSteps.{reads_news}
use Rattle.turn.proofs.steps.news.Goals as goal

pub load-requires : goal.load-requires
load-requires g c = (search rules, search rules, reads_news g.T.Counted.by g.T.Counted.entries _ _ _)
