use Rattle.turn.specs.Chairs.{view}
use Rattle.desk.specs.Works.{NeedsBranch}
use Rattle.desk.proofs.ReportCounts.{sum_both}
use Rattle.desk.proofs.Holdings.{keeps_seen_trans, keeps_seen_then_reads}
use Rattle.desk.proofs.desk.Desk.rounds.Goals as goal

pub returns-in-Err : goal.returns-in-Err
returns-in-Err g c = record {
  chair = c.planned.ensures.chair;
  stays = keeps_seen_then_reads g.R.Behaves.behaviour c.args.self.now.first.value (view c.args.chair.now) (view c.loop.chair) (view c.planned.new.chair) (λ n world. NeedsBranch c.args.filling.now.branch.now world c.planned.result)
      c.loop.invariant.stays c.planned.ensures.reads;
  owns = c.planned.ensures.owns;
  sum = tt;
}

pub returns-in-Err-NoBranch-clause-stays : goal.returns-in-Err-NoBranch-clause-stays
returns-in-Err-NoBranch-clause-stays g c =
    keeps_seen_then_reads g.R.Behaves.behaviour c.args.self.now.first.value (view c.args.chair.now) (view c.loop.chair) (view c.planned.new.chair) (λ n world. NeedsBranch c.args.filling.now.branch.now world c.planned.result)
    c.loop.invariant.stays c.planned.ensures.reads

pub returns-in_err-outcomes-2-clause-stays : goal.returns-in_err-outcomes-2-clause-stays
returns-in_err-outcomes-2-clause-stays g c =
    keeps_seen_then_reads g.R.Behaves.behaviour c.args.self.now.first.value (view c.args.chair.now) (view c.loop.chair) (view c.planned.new.chair) (λ n world. NeedsBranch c.args.filling.now.branch.now world c.planned.result)
    c.loop.invariant.stays c.planned.ensures.reads

pub returns-in_default-clause-stays : goal.returns-in_default-clause-stays
returns-in_default-clause-stays g c =
    keeps_seen_trans (view c.args.chair.now) (view c.planned.new.chair) (view c.install_all-round-in-loop.new.chair)
    (keeps_seen_then_reads g.R.Behaves.behaviour c.args.self.now.first.value (view c.args.chair.now) (view c.loop.chair) (view c.planned.new.chair) (λ n world. NeedsBranch c.args.filling.now.branch.now world c.planned.result)
    c.loop.invariant.stays c.planned.ensures.reads) c.install_all-round-in-loop.ensures.stays

pub loop-preserved : goal.loop-preserved
loop-preserved g c = record {
  at = c.install_all-round-in-loop.ensures.chair;
  stays = keeps_seen_trans (view c.args.chair.now) (view c.planned.new.chair) (view c.install_all-round-in-loop.new.chair)
      (keeps_seen_then_reads g.R.Behaves.behaviour c.args.self.now.first.value (view c.args.chair.now) (view c.loop.chair) (view c.planned.new.chair) (λ n world. NeedsBranch c.args.filling.now.branch.now world c.planned.result)
      c.loop.invariant.stays c.planned.ensures.reads) c.install_all-round-in-loop.ensures.stays;
  owns = c.install_all-round-in-loop.ensures.owns;
  sums = (c.install_all-round-in-loop.ensures.sum, sum_both c.loop.report c.install_all-round-in-loop.result c.in-Some.sum c.loop.invariant.sums.1 c.install_all-round-in-loop.ensures.sum c.in-Some.ensures);
}
