use Rattle.std.proofs.Common.{Ok, Err}
use Rattle.schedule_trie.specs.declared.refusal.Refusal.TheVariants.{Memory}
use Rattle.turn.specs.Chairs.{view}
use Rattle.desk.specs.declared.report.Report.{Report}
use Rattle.desk.proofs.Holdings.{fill_after_reading, memory_if_there}
use Rattle.desk.proofs.desk.Desk.fill_with.Goals as goal

pub returns-in-Err-rounds-clause-filled : goal.returns-in-Err-rounds-clause-filled
returns-in-Err-rounds-clause-filled g c =
    fill_after_reading g.R.Behaves.behaviour c.args.self.now.first.value (view c.args.chair.now) (view c.planned.new.chair) (view c.rounds.new.chair) c.args.branch.now (Ok c.in-Ok.jobs) (Err Memory)
    (λ world. memory_if_there Report world c.args.branch.now c.in-Ok.jobs) c.in-Ok.ensures.reads c.rounds.ensures.stays
