use Rattle.std.proofs.Common.{arith, sym, ◌∙◌, length-drop}
use Rattle.surface_tests.specs.laws.Switch.{no_point_unless_one_frame, one_frame_gives_point}
use Rattle.surface_tests.proofs.registers.switch.SwitchRegister.pending_on.Goals as goal

pub returns-then-saturating_sub-ne1 : goal.returns-then-saturating_sub-ne1
returns-then-saturating_sub-ne1 c = no_point_unless_one_frame c.args.who c.args.first c.args.stack.now
    (λ e. omega (arith, e, length-drop c.args.first c.args.stack.now, c.len.ensures, c.saturating_sub.ensures, c.if-saturating_sub-ne1.true))

pub returns-then-is : goal.returns-then-is
returns-then-is c =
    one_frame_gives_point c.args.who c.args.first c.args.stack.now c.frame-frame.result c.frame-frame.ensures
    (omega (arith, c.len.ensures, c.saturating_sub.ensures, c.if-saturating_sub-ne1.false)) (sym c.fits.ensures ∙ c.if-fits.true)
    (c.is.ensures.0 c.if-is.true ∙ c.frame_of.ensures)
