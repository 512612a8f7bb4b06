use Rattle.std.proofs.Common.{◌≡◌, ◌+◌, length}
use Rattle.std.specs.Vec.Iter.{into_iter_items, into_iter_len}
use Rattle.turn.specs.Histories.{OwnsItsCalls}
use Rattle.turn.specs.Chairs.{view}
use Rattle.desk.specs.Items.{made_under}
use Rattle.desk.specs.Chairs.{IsChairOf, KeepsSeen}
use Rattle.desk.specs.Reports.{IsSum}
use Rattle.desk.proofs.desk.Desk.install_all.Given as goal

-- the number of jobs counted so far plus that of the outcomes left is the number of all outcomes
abbrev pub invariant-loop-done : goal.invariant-loop-done
invariant-loop-done g l = record {
  at : IsChairOf g.R.Behaves.behaviour l.fn.self l.chair;
  stays : KeepsSeen (view l.initial.chair) (view l.chair);
  owns : OwnsItsCalls made_under (view l.chair);
  sum : IsSum l.report;
  count : l.report.planned + into_iter_len l.done-iterator ≡ into_iter_len l.initial.done-iterator;
  len : into_iter_len l.done-iterator ≡ length (into_iter_items l.done-iterator);
}
