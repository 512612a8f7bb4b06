use Rattle.std.proofs.Common.{◌∙◌, ap}
use Rattle.words.specs.Words.{is_end}
use Rattle.words.proofs.Splits.{is_end-parts_left}
use Rattle.words.proofs.lines.Lines.is_end.Goals as goal

pub returns : goal.returns
returns c = is_end-parts_left 10 c.self.inside.text c.is_none.result c.is_none.ensures ∙ ap is_end c.self.view_is
