use Rattle.std.proofs.Common.{◌∙◌}
use Rattle.std.specs.Cmp.Lexicographic.{pointwise}
use Rattle.frames.specs.contracts.types.FramePartialEq.TheImpl as frames
use Rattle.frames.proofs.flat.FlatStackPartialEq.eq.Goals as goal

pub returns : goal.returns
returns c = c.eq.ensures ∙ (λ i. pointwise frames.eq-value.it (c.as_slice.ensures.items i) (c.as_slice-2.ensures.items i))
