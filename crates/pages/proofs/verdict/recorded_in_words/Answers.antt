use Rattle.pages.proofs.RecordedHistories.{records_well_formed, records_one_writer, records_judged}
use Rattle.pages.proofs.verdict.recorded_in_words.Goals as goal

pub returns-clause-well_formed : goal.returns-clause-well_formed
returns-clause-well_formed g c =
    let r = c.args.register.now in
    records_well_formed (g.R.Behaves.behaviour r) (g.R.Register.Holds r) (g.R.Register.Reaches r) (g.met.R.Register.lawful r)

pub returns-clause-histories : goal.returns-clause-histories
returns-clause-histories g c =
    let r = c.args.register.now in
    records_one_writer (g.R.Behaves.behaviour r) (g.R.Register.Holds r) (g.R.Register.Reaches r) (g.met.R.Register.lawful r)

pub returns-clause-judged : goal.returns-clause-judged
returns-clause-judged g c =
    let r = c.args.register.now in
    records_judged (g.R.Behaves.behaviour r) (g.R.Register.Holds r) (g.R.Register.Reaches r) (g.met.R.Register.lawful r)
