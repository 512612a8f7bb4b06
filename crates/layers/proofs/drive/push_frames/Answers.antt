use Rattle.std.proofs.Common.{length, [], ◌∷◌, ap, arith, length-append}
use Rattle.layers.proofs.Frames.{pushed_frames}
use Rattle.layers.proofs.drive.push_frames.Goals as goal

pub push_frames-requires-clause-room : goal.push_frames-requires-clause-room
push_frames-requires-clause-room g c =
    omega (arith, ap length c.push.ensures, length-append c.args.stack.now (c.frame.result ∷ []), c.requires.room)

pub returns : goal.returns
returns g c =
    pushed_frames c.args.stack.now c.push.new.self c.push_frames.new.stack
    ((g.S.Behaves.behaviour c.args.below.now).frames c.args.pending.now.below)
    c.frame.result ((g.L.Rules.table c.args.layer.now).frame c.args.pending.now.task) c.push.ensures c.push_frames.ensures
    c.frame.ensures
