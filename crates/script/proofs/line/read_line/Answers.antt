use Rattle.std.proofs.Common.{sym, ◌∙◌}
use Rattle.script.proofs.LineMeaning.{says_what_is_read, reads_what_is_said}
use Rattle.script.proofs.line.read_line.Goals as goal

pub returns-clause-says : goal.returns-clause-says
returns-clause-says c = says_what_is_read c.args.line.now c.reading.result (sym c.reading.ensures)

pub returns-clause-only : goal.returns-clause-only
returns-clause-only c = λ said s. c.reading.ensures ∙ reads_what_is_said c.args.line.now said s
