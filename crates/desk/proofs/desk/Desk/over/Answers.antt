use Rattle.std.proofs.Common.{ap}
use Rattle.turn.specs.Chairs.{view}
use Rattle.sessions.specs.Books.{opening_of}
use Rattle.desk.proofs.FirstChair.{first_sees_opening, opening_is_history}
use Rattle.desk.proofs.desk.Desk.over.Goals as goal

pub returns-clause-new : goal.returns-clause-new
returns-clause-new g c =
    let is = g.R.Behaves.behaviour in
    let sees = first_sees_opening (view c.in-Ok.chair) c.in_ok-journal.journal c.args.book c.of-first.result.value c.in-Ok.ensures.chair
    c.in_ok-journal.ensures c.requires c.of-first.ensures in
    record {
      owned = (c.in-Ok.ensures.turn, opening_is_history is c.of-first.result.value (view c.in-Ok.chair) sees);
      sees = sees;
      opening = ap (opening_of is) c.of-first.ensures;
    }
