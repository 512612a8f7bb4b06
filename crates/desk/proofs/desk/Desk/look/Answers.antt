use Rattle.turn.specs.Chairs.{view}
use Rattle.desk.specs.Works.{answer_by}
use Rattle.desk.proofs.Holdings.{look_with_page}
use Rattle.desk.proofs.Works.{paged_no_stray}
use Rattle.desk.proofs.desk.Desk.look.Goals as goal

pub returns-clause-looked : goal.returns-clause-looked
returns-clause-looked g c =
    look_with_page g.R.Behaves.behaviour c.args.self.now.first.value (view c.args.chair.now) (view c.slip-at.new.chair) c.args.query c.slip-at.result.0 (answer_by c.slip-at.result.1) c.paged-result.result c.paged-result.ensures
    c.slip-at.ensures.looked

pub returns-clause-never_stray : goal.returns-clause-never_stray
returns-clause-never_stray g c = λ lawful.
    paged_no_stray (answer_by c.slip-at.result.1) c.paged-result.result c.paged-result.ensures (c.slip-at.ensures.never_stray lawful)
