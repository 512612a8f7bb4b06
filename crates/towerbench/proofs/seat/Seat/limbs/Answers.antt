use Rattle.std.proofs.Common.{IfOk, subst}
use Rattle.turn.specs.Chairs.{view}
use Rattle.sessions.specs.Saves.{IsSaved}
use Rattle.towerbench.specs.Seats.{Seated, IsAlone, world_at}
use Rattle.towerbench.proofs.DeskCalls.{saved_limbs}
use Rattle.towerbench.proofs.seat.Seat.limbs.Goals as goal

pub returns : goal.returns
returns g c = λ alone.
    let is = g.R.Behaves.behaviour in
    let saved_if_alone = subst (λ (s : Seated g.row.R.Denot g.row.R-Pending.Denot). IsAlone s → IfOk c.limbs.result (λ saved. IsSaved (world_at is s) saved.limbs)) c.self.view_is
    (saved_limbs is c.self.inside.desk.first.value (view c.self.inside.chair) (view c.limbs.new.chair) c.limbs.result c.limbs.ensures.saved) alone in
    rw c.into_vec.ensures (rw c.in-Ok.is at saved_if_alone)
