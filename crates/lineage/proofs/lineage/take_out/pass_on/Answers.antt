use Rattle.std.proofs.Common.{sym, ◌∙◌}
use Rattle.lineage.proofs.lineage.take_out.pass_on.Goals as goal

pub overflow_sub-index : goal.overflow_sub-index
overflow_sub-index g c = (c.requires.few c.in-Some.key c.index.result.now (sym c.get.ensures ∙ c.in-Some.is) c.index.ensures).0
