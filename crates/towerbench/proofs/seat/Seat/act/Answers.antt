use Rattle.std.proofs.Common.{◌≡◌, Bool, subst, sym}
use Rattle.turn.specs.Shares.{HasAll}
use Rattle.turn.specs.Chairs.{view}
use Rattle.script.specs.Answers.{carried_out}
use Rattle.sessions.specs.Books.{opening_of}
use Rattle.sessions.specs.Logs.{world_after}
use Rattle.desk.specs.Histories.{seen}
use Rattle.towerbench.specs.Seats.{Seated, IsAlone, world_at}
use Rattle.towerbench.proofs.DeskCalls.{received_answers}
use Rattle.towerbench.proofs.seat.Seat.act.Goals as goal

pub returns-clause-acts : goal.returns-clause-acts
returns-clause-acts g c =
    let is = g.R.Behaves.behaviour in
    let first = c.self.inside.desk.first.value in
    let after = world_after (opening_of is first) (seen (view c.act-receipt.new.chair)) in
    subst (λ (s : Seated g.row.R.Denot g.row.R-Pending.Denot). IsAlone s
    → (memory : Bool) × (carried_out memory c.args.session c.args.if_at c.args.command.now (world_at is s) ≡ record { world = after; reply = c.act-receipt.result.reply })) c.self.view_is
    (received_answers is first (view c.self.inside.chair) (view c.act-receipt.new.chair) c.args.session c.args.if_at c.args.command.now c.act-receipt.result c.act-receipt.ensures.received)

pub returns-clause-alone : goal.returns-clause-alone
returns-clause-alone g c =
    subst (λ (s : Seated g.row.R.Denot g.row.R-Pending.Denot). IsAlone s → HasAll (view c.act-receipt.new.chair).shares) c.self.view_is
    (λ all. subst HasAll (sym c.act-receipt.ensures.received.shares) all)
