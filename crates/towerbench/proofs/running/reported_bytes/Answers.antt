use Rattle.towerbench.specs.Seats.{world_at}
use Rattle.towerbench.proofs.Benches.{have_fit, lawful_bench}
use Rattle.towerbench.proofs.running.reported_bytes.Goals as goal

pub of_lawful-left-requires : goal.of_lawful-left-requires
of_lawful-left-requires g c =
    let w = world_at g.B.Behaves.behaviour c.args.seat.now in
    let ground = c.requires.ground in
    let saved = c.in_ok-limbs-in-Branches.ensures c.requires.alone in
    let limbs = c.in_ok-limbs-in-Branches.limbs.items in
    record {
      lawful = lawful_bench c.args.tower limbs ground.lawful saved.some saved.lawful
          (have_fit c.args.tower w.tower ground.alike w.limits ground.branches ground.cells limbs saved.fit saved.within);
    }
