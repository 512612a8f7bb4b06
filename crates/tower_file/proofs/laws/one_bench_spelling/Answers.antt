use Rattle.tower_file.proofs.Formats.{reading_is, one_file}
use Rattle.tower_file.proofs.BenchFormat.{bench_format}
use Rattle.tower_file.proofs.laws.one_bench_spelling.Goals as goal

pub returns-clause-file : goal.returns-clause-file
returns-clause-file c = one_file bench_format

pub returns-clause-reading : goal.returns-clause-reading
returns-clause-reading c = λ bytes b. (reading_is bench_format bytes b, bench_format.reads_back bytes b)
