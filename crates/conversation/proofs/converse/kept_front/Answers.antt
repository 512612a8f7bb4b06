use Rattle.std.proofs.Common.{ap, take, ◌∙◌}
use Rattle.std.proofs.lemmas.List.{take_min}
use Rattle.conversation.specs.declared.limits.TheConstants.{KEPT_BYTES}
use Rattle.conversation.proofs.converse.kept_front.Goals as goal

pub returns : goal.returns
returns c = ap (λ n. take n c.args.line.now) c.min.ensures ∙ take_min KEPT_BYTES c.args.line.now
