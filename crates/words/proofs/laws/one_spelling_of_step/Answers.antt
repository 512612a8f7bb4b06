use Rattle.words.proofs.Steps.{one_spelling_of_step}
use Rattle.words.proofs.laws.one_spelling_of_step.Goals as goal

pub returns : goal.returns
returns c = one_spelling_of_step
