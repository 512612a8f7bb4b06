use Rattle.std.proofs.Common.{sym, ◌∙◌}
use Rattle.script.proofs.LineMeaning.{says_what_is_read, reads_what_is_said}
use Rattle.script.proofs.laws.one_text.Goals as goal

pub returns-clause-text : goal.returns-clause-text
returns-clause-text c = λ a b it s t. s.text_is ∙ sym t.text_is

pub returns-clause-reading : goal.returns-clause-reading
returns-clause-reading c = λ line said. (says_what_is_read line said, reads_what_is_said line said)
