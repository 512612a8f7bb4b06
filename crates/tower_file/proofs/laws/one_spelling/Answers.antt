use Rattle.tower_file.proofs.Formats.{reading_is, one_file}
use Rattle.tower_file.proofs.TowerFormat.{tower_format}
use Rattle.tower_file.proofs.laws.one_spelling.Goals as goal

pub returns-clause-file : goal.returns-clause-file
returns-clause-file c = one_file tower_format

pub returns-clause-reading : goal.returns-clause-reading
returns-clause-reading c = λ bytes f. (reading_is tower_format bytes f, tower_format.reads_back bytes f)
