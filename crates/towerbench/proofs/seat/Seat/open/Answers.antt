use Rattle.towerbench.proofs.Benches.{limbs_fit, limbs_fit_tower, limbs_lawful, some_limb}
use Rattle.towerbench.proofs.seat.Seat.open.Goals as goal

pub open_limbs-requires-clause-limbs : goal.open_limbs-requires-clause-limbs
open_limbs-requires-clause-limbs g c =
    let b = c.args.opening.setup.bench in
    rw c.as_slice-limbs.ensures (record {
      some = some_limb b.tower b.limbs b.lawful;
      lawful = limbs_lawful b.tower b.limbs b.lawful;
      fit = limbs_fit b.tower (g.R.Behaves.behaviour c.args.opening.register) c.requires.builds.alike b.limbs (limbs_fit_tower b.tower b.limbs b.lawful);
    })
