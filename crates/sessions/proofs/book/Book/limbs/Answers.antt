use Rattle.std.proofs.Common.{length}
use Rattle.sessions.proofs.Saves.{limbs_are_saved}
use Rattle.sessions.proofs.book.Book.limbs.Goals as goal

pub returns : goal.returns
returns g c =
    let i = c.self.inside in
    let limbs = c.limbs.ensures in
    rw (← c.self.view_is) (limbs_are_saved g.R.Behaves.behaviour i.workspace (length i.log.items) (λ r. r.items) c.limbs.result limbs.limbs limbs.lawful limbs.some limbs.near limbs.fit)
