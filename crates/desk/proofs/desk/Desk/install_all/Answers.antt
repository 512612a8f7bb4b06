use Rattle.std.proofs.Common.{length, ap, ◌∙◌, arith, rules}
use Rattle.turn.specs.Chairs.{view}
use Rattle.desk.proofs.ReportCounts.{sum_none, sum_more, planned_more}
use Rattle.desk.proofs.Holdings.{keeps_seen_refl, keeps_seen_trans}
use Rattle.desk.proofs.desk.Desk.install_all.Goals as goal

pub loop-done-init : goal.loop-done-init
loop-done-init g c = record {
  at = c.requires.at;
  stays = keeps_seen_refl (view c.args.chair.now);
  owns = c.requires.owns;
  sum = sum_none c.new-report.result c.new-report.ensures;
  count = let none = ap (λ r. r.planned) c.new-report.ensures in omega arith;
  len = search rules;
}

pub loop-done-preserved : goal.loop-done-preserved
loop-done-preserved g c =
    let was = c.loop-done.invariant in
    let answer = c.install-answer.result in
    let steps = c.in-Some.ensures.steps in record {
      at = c.install-answer.ensures.chair;
      stays = keeps_seen_trans (view c.args.chair.now) (view c.loop-done.chair) (view c.install-answer.new.chair) was.stays c.install-answer.ensures.stays;
      owns = c.install-answer.ensures.owns;
      sum = rw c.add.ensures (sum_more answer c.loop-done.report was.sum);
      count = let all = was.count in let gone = steps.1 in let one = ap (λ r. r.planned) c.add.ensures ∙ planned_more answer c.loop-done.report in omega arith;
      len = let len = was.len in let gone = steps.1 in let short = ap length steps.0 in omega arith;
    }
