use Rattle.sessions.proofs.Searches.{met_here, met_later}
use Rattle.sessions.proofs.seek.is_met.Goals as goal

pub returns-then-meets : goal.returns-then-meets
returns-then-meets g c =
    met_here c.args.breaks.now c.args.events c.store-store.result.now c.args.config.now.memory c.loop-one.one-index _
    c.meets.result c.loop-one-test.true c.store-store.ensures c.meets.ensures c.loop-one.invariant c.if-meets.true

pub loop-one-preserved : goal.loop-one-preserved
loop-one-preserved g c =
    met_later c.args.breaks.now c.args.events c.store-store.result.now c.args.config.now.memory c.loop-one.one-index _
    c.meets.result c.loop-one-test.true c.store-store.ensures c.meets.ensures c.loop-one.invariant c.if-meets.false
