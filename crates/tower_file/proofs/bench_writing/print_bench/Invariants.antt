use Rattle.std.proofs.Common.{◌≡◌, ◌++◌, take}
use Rattle.std.specs.List.{flat_map}
use Rattle.tower_file.specs.Spelling.{text_with_end, tower_text}
use Rattle.tower_file.specs.BenchSpelling.{bench_header, limb_text}
use Rattle.tower_file.proofs.bench_writing.print_bench.Given as goal

abbrev pub invariant-loop-limb : goal.invariant-loop-limb
invariant-loop-limb l = l.out.items ≡ text_with_end bench_header ++ text_with_end (tower_text l.file.tower) ++ flat_map limb_text (take l.limb-index l.limb-items)
