use Rattle.std.proofs.Common.{refl, arith, length-drop}
use Rattle.layers.specs.laws.Over.{over}
use Rattle.layers.proofs.Frames.{no_point_if_few, point_below, no_point_below, no_point_if_other_op}
use Rattle.layers.proofs.drive.pending_on.Goals as goal

pub returns-then-saturating_sub-lt2 : goal.returns-then-saturating_sub-lt2
returns-then-saturating_sub-lt2 g c =
    let l = over (g.met.S.Register.lawful c.args.below.now) (g.met.L.Construction.sound c.args.layer.now) c.requires.fit in
    no_point_if_few l (g.S.Register.point c.args.below.now) (g.met.S.Register.reports c.args.below.now) c.args.who c.args.first c.args.stack.now
    (omega (arith, length-drop c.args.first c.args.stack.now, c.len.ensures, c.saturating_sub.ensures, c.if-saturating_sub-lt2.true))

pub returns-then-not-is : goal.returns-then-not-is
returns-then-not-is g c =
    let sound = g.met.L.Construction.sound c.args.layer.now in
    let l = over (g.met.S.Register.lawful c.args.below.now) sound c.requires.fit in
    no_point_if_other_op l (g.S.Register.point c.args.below.now) (g.met.S.Register.reports c.args.below.now) c.args.who c.args.first
    c.args.stack.now
    c.frame.result c.in_ok-task.task c.asks-ask.result c.frame.ensures c.in_ok-task.ensures c.asks-ask.ensures
    c.frame-2.result c.frame-2.ensures c.if-not-is.ensures.1

pub returns-in_err-point : goal.returns-in_err-point
returns-in_err-point g c = rw c.from_residual-in_err-point.ensures (
    let sound = g.met.L.Construction.sound c.args.layer.now in
    let l = over (g.met.S.Register.lawful c.args.below.now) sound c.requires.fit in
    no_point_below l (g.S.Register.point c.args.below.now) (g.met.S.Register.reports c.args.below.now) c.args.who
    c.args.first c.args.stack.now
    c.frame.result c.in_ok-task.task c.asks-ask.result c.frame.ensures c.in_ok-task.ensures c.asks-ask.ensures
    c.in_err-point.ensures)

pub returns : goal.returns
returns g c =
    let sound = g.met.L.Construction.sound c.args.layer.now in
    let l = over (g.met.S.Register.lawful c.args.below.now) sound c.requires.fit in
    point_below l (g.S.Register.point c.args.below.now) (g.met.S.Register.reports c.args.below.now) c.args.who
    c.args.first c.args.stack.now
    c.frame.result c.in_ok-task.task c.asks-ask.result c.frame.ensures c.in_ok-task.ensures c.asks-ask.ensures
    c.frame-2.result c.frame-2.ensures (c.if-not-is.ensures.0 refl) c.in_ok-point.point c.in_ok-point.ensures
