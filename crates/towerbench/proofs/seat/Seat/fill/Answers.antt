use Rattle.std.proofs.Common.{◌≡◌, ap, subst, sym}
use Rattle.turn.specs.Shares.{HasAll}
use Rattle.turn.specs.Chairs.{view}
use Rattle.sessions.specs.Books.{opening_of}
use Rattle.sessions.specs.Logs.{world_after}
use Rattle.desk.specs.Histories.{seen}
use Rattle.desk.specs.Works.{NeedsBranch}
use Rattle.towerbench.specs.Seats.{Seated, IsAlone, world_at}
use Rattle.towerbench.proofs.DeskCalls.{filled_answers, fill_keeps_shares, fill_keeps_history}
use Rattle.towerbench.proofs.seat.Seat.fill.Goals as goal

pub returns-clause-found : goal.returns-clause-found
returns-clause-found g c = subst (λ (s : Seated g.row.R.Denot g.row.R-Pending.Denot). IsAlone s → NeedsBranch c.args.branch.now (world_at g.R.Behaves.behaviour s) c.fill.result) c.self.view_is
    (filled_answers g.R.Behaves.behaviour c.self.inside.desk.first.value (view c.self.inside.chair) (view c.fill.new.chair) c.args.branch.now c.fill.result c.fill.ensures.filled)

pub returns-clause-kept : goal.returns-clause-kept
returns-clause-kept g c =
    let is = g.R.Behaves.behaviour in
    let first = c.self.inside.desk.first.value in
    let after = world_after (opening_of is first) (seen (view c.fill.new.chair)) in
    subst (λ (s : Seated g.row.R.Denot g.row.R-Pending.Denot). IsAlone s → after ≡ world_at is s) c.self.view_is
    (λ all. ap (world_after (opening_of is first)) (fill_keeps_history is first (view c.self.inside.chair) (view c.fill.new.chair) c.args.branch.now c.fill.result c.fill.ensures.filled all))

pub returns-clause-alone : goal.returns-clause-alone
returns-clause-alone g c =
    subst (λ (s : Seated g.row.R.Denot g.row.R-Pending.Denot). IsAlone s → HasAll (view c.fill.new.chair).shares) c.self.view_is
    (λ all. subst HasAll (sym (fill_keeps_shares g.R.Behaves.behaviour c.self.inside.desk.first.value (view c.self.inside.chair) (view c.fill.new.chair) c.args.branch.now c.fill.result c.fill.ensures.filled)) all)
