use Rattle.std.specs.List.{list_all}
use Rattle.std.proofs.lemmas.Bool.{and_parts}
use Rattle.tower_file.specs.Towers.{is_lawful_tower}
use Rattle.tower_file.specs.Versions.{may_have}
use Rattle.tower_file.proofs.ReadBack.{steps_fit}
use Rattle.towerbench.proofs.bench_source.read_bench.Goals as goal

pub one_branch-requires-clause-fit : goal.one_branch-requires-clause-fit
one_branch-requires-clause-fit c =
    let f = c.in_ok-file.file in
    steps_fit f.version f.tower f.steps (and_parts (is_lawful_tower f.tower) (list_all (may_have f.version f.tower) f.steps) f.lawful).1
