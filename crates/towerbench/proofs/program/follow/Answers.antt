use Rattle.std.proofs.Common.{refl}
use Rattle.towerbench.proofs.Endings.{ends_by_words, ends_after_help}
use Rattle.towerbench.proofs.program.follow.Goals as goal

pub returns-in-Run : goal.returns-in-Run
returns-in-Run g c = ends_by_words _ _ _ c.work.result c.in-Run.file c.in-Run.options c.in-Run.save c.in-Run.ensures.asked c.work.ensures

pub returns-in-Help : goal.returns-in-Help
returns-in-Help g c = ends_after_help _ _ _ c.print.result c.in-Help.ensures.asked refl c.print.ensures
