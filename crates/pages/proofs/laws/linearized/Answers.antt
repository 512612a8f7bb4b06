use Rattle.pages.proofs.Linearizations.{ranks_linearize}
use Rattle.pages.proofs.Rankings.{linearization_ranked}
use Rattle.pages.proofs.laws.linearized.Goals as goal

pub returns-clause-linear : goal.returns-clause-linear
returns-clause-linear c = ranks_linearize

pub returns-clause-ranked : goal.returns-clause-ranked
returns-clause-ranked c = linearization_ranked
