use Rattle.std.proofs.Common.{ap, ◌∙◌}
use Rattle.words.specs.Numbers.{number}
use Rattle.words.proofs.Numbers.{decimal-number, number-decimal}
use Rattle.words.proofs.laws.one_spelling_of_number.Goals as goal

pub returns : goal.returns
returns c = λ word n. (decimal-number word n, λ h. ap number h.1 ∙ number-decimal n h.0)
