use Rattle.pages.proofs.VerdictWords.{judged_in_words}
use Rattle.pages.proofs.verdict.verdicts_in_words.Goals as goal

pub returns : goal.returns
returns c = judged_in_words
