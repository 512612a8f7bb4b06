use Rattle.std.proofs.Common.{◌-◌}
use Rattle.workers.proofs.crew.+fn-work_with_thieves-join+arg3+work_with_thieves.Given as goal

abbrev pub decreases-join+arg3 : goal.decreases-join+arg3
decreases-join+arg3 g l = l.thieves - 1

abbrev pub decreases-work_with_thieves : goal.decreases-work_with_thieves
decreases-work_with_thieves g l = l.thieves
