use Rattle.turn.specs.Histories.{OwnsItsCalls}
use Rattle.turn.specs.Chairs.{view}
use Rattle.desk.specs.Items.{made_under}
use Rattle.desk.specs.Chairs.{IsChairOf, KeepsSeen}
use Rattle.desk.specs.Reports.{IsSum}
use Rattle.desk.proofs.desk.Desk.rounds.Given as goal

abbrev pub invariant-loop : goal.invariant-loop
invariant-loop g l = record {
  at : IsChairOf g.R.Behaves.behaviour l.fn.self l.chair;
  stays : KeepsSeen (view l.fn.chair) (view l.chair);
  owns : OwnsItsCalls made_under (view l.chair);
  sums : IsSum l.round × IsSum l.report;
}
