use Rattle.std.proofs.Common.{◌≡◌, ap, subst, sym}
use Rattle.turn.specs.Shares.{HasAll}
use Rattle.turn.specs.Chairs.{view}
use Rattle.sessions.specs.Books.{opening_of}
use Rattle.sessions.specs.Logs.{world_after}
use Rattle.desk.specs.Histories.{seen}
use Rattle.desk.specs.Works.{IsAnswer, answer_by, answer_at}
use Rattle.desk.proofs.Works.{page_answers}
use Rattle.towerbench.specs.Seats.{Seated, IsAlone, world_at}
use Rattle.towerbench.proofs.DeskCalls.{looked_answers, look_keeps_history, shown, page_found, refused}
use Rattle.towerbench.proofs.seat.Seat.look.Given.{Over}
use Rattle.towerbench.proofs.seat.Seat.look.Goals as goal

-- if the chair holds every share, the result is an answer to the look in the seat's world
answers : (g : Over) (c : goal.After-paged g) → IsAlone c.args.self.now → IsAnswer (world_at g.R.Behaves.behaviour c.args.self.now) c.args.query c.paged.result
answers g c alone =
    let slip = c.slip-slip.result in
    page_answers (world_at g.R.Behaves.behaviour c.args.self.now) c.args.query (answer_by slip.1) c.paged.result c.paged.ensures
    (subst (λ (s : Seated g.row.R.Denot g.row.R-Pending.Denot). IsAlone s → IsAnswer (world_at g.R.Behaves.behaviour s) c.args.query (answer_by slip.1)) c.self.view_is
    (looked_answers g.R.Behaves.behaviour c.self.inside.desk.first.value (view c.self.inside.chair) (view c.slip-slip.new.chair) c.args.query (answer_at slip.0 slip.1) c.slip-slip.ensures.looked) alone)

pub returns-clause-page : goal.returns-clause-page
returns-clause-page g c = λ alone. shown (world_at g.R.Behaves.behaviour c.args.self.now) c.args.query c.paged.result (answers g c alone)

pub returns-clause-found : goal.returns-clause-found
returns-clause-found g c = λ alone. page_found (world_at g.R.Behaves.behaviour c.args.self.now) c.args.query c.paged.result (answers g c alone)

pub returns-clause-err : goal.returns-clause-err
returns-clause-err g c = λ alone. refused (world_at g.R.Behaves.behaviour c.args.self.now) c.args.query c.paged.result (answers g c alone)

pub returns-clause-kept : goal.returns-clause-kept
returns-clause-kept g c =
    let is = g.R.Behaves.behaviour in
    let first = c.self.inside.desk.first.value in
    let after = world_after (opening_of is first) (seen (view c.slip-slip.new.chair)) in
    subst (λ (s : Seated g.row.R.Denot g.row.R-Pending.Denot). IsAlone s → after ≡ world_at is s) c.self.view_is
    (λ all. ap (world_after (opening_of is first)) (look_keeps_history is first (view c.self.inside.chair) (view c.slip-slip.new.chair) c.args.query (answer_at c.slip-slip.result.0 c.slip-slip.result.1) c.slip-slip.ensures.looked all))

pub returns-clause-alone : goal.returns-clause-alone
returns-clause-alone g c =
    subst (λ (s : Seated g.row.R.Denot g.row.R-Pending.Denot). IsAlone s → HasAll (view c.slip-slip.new.chair).shares) c.self.view_is
    (λ all. subst HasAll (sym c.slip-slip.ensures.looked.shares) all)
