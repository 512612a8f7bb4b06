use Rattle.std.proofs.Common.{rules}
use Rattle.register_tests.proofs.Neighbours.{neighbours_at_first, room_for_two}
use Rattle.register_tests.proofs.built_towers.neighbours.Neighbours.new.Goals as goal

pub invariant_of-result : goal.invariant_of-result
invariant_of-result g c =
    let laws = g.met.R.Register in
    let b = g.R.Behaves.behaviour c.args.register in
    let room = room_for_two b (g.R.Register.Holds c.args.register) (g.R.Register.Reaches c.args.register) (laws.lawful c.args.register) c.size-size.result c.in_ok-store.store (search rules) (search rules) in
    neighbours_at_first b (g.R.Register.Holds c.args.register) (g.R.Register.Reaches c.args.register) (laws.lawful c.args.register) c.args.value
    c.in_ok-store.store c.init.new.store c.init-2.new.store (search rules) room.0 room.1 (search rules) (search rules)
