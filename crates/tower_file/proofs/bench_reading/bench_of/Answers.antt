use Rattle.tower_file.specs.Parsed.{as_bench}
use Rattle.tower_file.specs.BenchSpelling.{SpellsFront}
use Rattle.tower_file.proofs.Formats.{parses, plain_memory}
use Rattle.tower_file.proofs.BenchFormat.{bench_format}
use Rattle.tower_file.proofs.bench_reading.bench_of.Goals as goal

pub returns-clause-parsed : goal.returns-clause-parsed
returns-clause-parsed c = parses bench_format as_bench c.args.bytes.now c.bench_of_lines.result c.foreign_first.result c.bench_of_lines.ensures.exact c.foreign_first.ensures

pub returns-clause-memory : goal.returns-clause-memory
returns-clause-memory c = plain_memory c.args.bytes.now (SpellsFront c.args.bytes.now) c.bench_of_lines.result c.foreign_first.result c.bench_of_lines.ensures.memory c.foreign_first.ensures
