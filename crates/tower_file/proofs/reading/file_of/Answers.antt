use Rattle.tower_file.specs.Parsed.{as_file}
use Rattle.tower_file.specs.Spelling.{SpellsSteps}
use Rattle.tower_file.proofs.Formats.{parses, plain_memory}
use Rattle.tower_file.proofs.TowerFormat.{tower_format}
use Rattle.tower_file.proofs.reading.file_of.Goals as goal

pub returns-clause-parsed : goal.returns-clause-parsed
returns-clause-parsed c = parses tower_format as_file c.args.bytes.now c.file_of_lines.result c.foreign_first.result c.file_of_lines.ensures.exact c.foreign_first.ensures

pub returns-clause-memory : goal.returns-clause-memory
returns-clause-memory c = plain_memory c.args.bytes.now (SpellsSteps c.args.bytes.now) c.file_of_lines.result c.foreign_first.result c.file_of_lines.ensures.memory c.foreign_first.ensures
