-- What a parsed file holds, as values of the types that the definitions use.
use Rattle.tower_file.specs.declared.file.TowerFile.{TowerFile}
use Rattle.tower_file.specs.declared.bench.BenchFile.{BenchFile}
use Rattle.tower_file.specs.Files.{File, file_of}
use Rattle.tower_file.specs.Benches.{Bench, bench_of}

-- the version, the tower and the steps of a parsed tower file, as the definitions' `File`
abbrev pub as_file : TowerFile → File
as_file f = file_of f.version f.tower f.steps

-- the tower and the limbs of a parsed bench file, as the definitions' `Bench`
abbrev pub as_bench : BenchFile → Bench
as_bench b = bench_of b.tower b.limbs
