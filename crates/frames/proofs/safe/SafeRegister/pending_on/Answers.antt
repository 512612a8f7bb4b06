use Rattle.std.proofs.Common.{arith, length-drop}
use Rattle.frames.proofs.SafeFrames.{no_point_unless_one_frame}
use Rattle.frames.proofs.safe.SafeRegister.pending_on.Goals as goal

pub returns-else-saturating_sub-eq1 : goal.returns-else-saturating_sub-eq1
returns-else-saturating_sub-eq1 c = no_point_unless_one_frame c.args.who c.args.first c.args.stack.now
    (λ e. omega (arith, e, length-drop c.args.first c.args.stack.now, c.len.ensures, c.saturating_sub.ensures, c.if-saturating_sub-eq1.false))
