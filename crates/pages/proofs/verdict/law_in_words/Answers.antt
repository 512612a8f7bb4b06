use Rattle.frames.specs.OneWriter.{HasOneWriter}
use Rattle.pages.specs.VerdictWords.{RecordsOneWriter}
use Rattle.pages.proofs.RecordedHistories.{records_well_formed, records_one_writer}
use Rattle.pages.proofs.LawWords.{safe_words_alike, regular_words_alike}
use Rattle.pages.proofs.AtomicWords.{atomic_words_alike}
use Rattle.pages.proofs.Rankings.{linearizable_alike}
use Rattle.pages.proofs.verdict.law_in_words.Given.{Over}
use Rattle.pages.proofs.verdict.law_in_words.Goals as goal

-- a register of one writer records histories
histories : (g : Over) (r : g.row.R.Denot) → HasOneWriter (g.R.Behaves.behaviour r) → RecordsOneWriter (g.R.Behaves.behaviour r)
histories g r = records_one_writer (g.R.Behaves.behaviour r) (g.R.Register.Holds r) (g.R.Register.Reaches r) (g.met.R.Register.lawful r)

pub returns-clause-safe : goal.returns-clause-safe
returns-clause-safe g c = let r = c.args.register.now in safe_words_alike (g.R.Behaves.behaviour r) (histories g r)

pub returns-clause-regular : goal.returns-clause-regular
returns-clause-regular g c = let r = c.args.register.now in regular_words_alike (g.R.Behaves.behaviour r) (histories g r)

pub returns-clause-atomic : goal.returns-clause-atomic
returns-clause-atomic g c = let r = c.args.register.now in atomic_words_alike (g.R.Behaves.behaviour r) (histories g r)

pub returns-clause-linearizable : goal.returns-clause-linearizable
returns-clause-linearizable g c =
    let r = c.args.register.now in
    linearizable_alike (g.R.Behaves.behaviour r) (records_well_formed (g.R.Behaves.behaviour r) (g.R.Register.Holds r) (g.R.Register.Reaches r) (g.met.R.Register.lawful r))
