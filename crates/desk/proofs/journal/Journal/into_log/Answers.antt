use Rattle.std.proofs.Common.{◌∙◌, ap, sym}
use Rattle.desk.specs.Items.{calls_in}
use Rattle.desk.proofs.Lists.{calls_in_as_items}
use Rattle.desk.proofs.journal.Journal.into_log.Goals as goal

pub returns : goal.returns
returns g c = c.into_log.ensures.log ∙ ap (λ b. b.log) c.into_inner.ensures ∙ (sym (calls_in_as_items g.row.R.Denot g.row.R-Pending.Denot c.self.inside.book.value.log) ∙ ap calls_in c.self.view_is)
