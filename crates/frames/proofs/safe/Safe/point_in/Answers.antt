use Rattle.std.proofs.Common.{refl, Some, ap, subst, sym, ◌∙◌, [], ◌∷◌}
use Rattle.frames.specs.Flat.{IsPointByFrames}
use Rattle.frames.specs.SafeBit.{safe_behaviour, SafeReaches, safe_frame}
use Rattle.frames.proofs.SafeFrames.{point_of_one_frame}
use Rattle.frames.proofs.safe.Safe.point_in.Goals as goal

pub returns-then-is : goal.returns-then-is
returns-then-is c =
    subst (λ p. IsPointByFrames safe_behaviour.frames SafeReaches c.args.who (c.args.frame ∷ []) (Some p)) (sym c.point_of-point.ensures)
    (point_of_one_frame c.args.who 0 (c.args.frame ∷ []) c.args.frame refl refl (sym c.fits.ensures ∙ c.if-fits.true)
    (c.is.ensures.0 c.if-is.true ∙ c.frame_of.ensures ∙ ap safe_frame c.point_of-point.ensures))
