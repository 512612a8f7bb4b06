use Rattle.layers.specs.Nested.{layered}
use Rattle.layers.specs.Sound.{LayerReaches}
use Rattle.layers.specs.laws.Over.{over}
use Rattle.layers.proofs.OnNewStack.{gone_has_reached, has_frames_from_0}
use Rattle.layers.proofs.layered.LayeredRegister.go.Goals as goal

pub go_on-progress-requires-clause-may_be_at : goal.go_on-progress-requires-clause-may_be_at
go_on-progress-requires-clause-may_be_at g c =
    let r = c.args.self.now in
    let l = over (g.met.S.Register.lawful r.below) (g.met.L.Construction.sound r.layer) r.fit in
    let o = c.reaching_process-who.ensures in
    (o.0, (c.args.pending, has_frames_from_0 (layered l.table l.below).frames (LayerReaches l.table l.MayBeAt l.Reaches) c.reaching_process-who.result c.push_frames.new.stack c.new-stack.result o.0 c.args.pending o.1 c.new-stack.ensures c.push_frames.ensures))

pub reached_next-requires : goal.reached_next-requires
reached_next-requires g c =
    let r = c.args.self.now in
    let l = over (g.met.S.Register.lawful r.below) (g.met.L.Construction.sound r.layer) r.fit in
    let o = c.reaching_process-who.ensures in
    let went = gone_has_reached l c.args.at c.args.store.now c.requires.holds c.reaching_process-who.result o.0 c.go_on-progress.result.end c.go_on-progress.new.stack c.go_on-progress.new.store
    c.new-stack.result c.new-stack.ensures c.args.pending c.args.choice c.push_frames.new.stack o.1 c.push_frames.ensures (c.go_on-progress.ensures.lands o.0 c.args.pending) in
    record { may_be_at = (o.0, (_, went)) }

pub returns-clause-next : goal.returns-clause-next
returns-clause-next g c =
    let r = c.args.self.now in
    let l = over (g.met.S.Register.lawful r.below) (g.met.L.Construction.sound r.layer) r.fit in
    let o = c.reaching_process-who.ensures in
    c.reached_next.ensures o.0 _ (gone_has_reached l c.args.at c.args.store.now c.requires.holds c.reaching_process-who.result o.0 c.go_on-progress.result.end c.go_on-progress.new.stack c.go_on-progress.new.store
    c.new-stack.result c.new-stack.ensures c.args.pending c.args.choice c.push_frames.new.stack o.1 c.push_frames.ensures (c.go_on-progress.ensures.lands o.0 c.args.pending))
