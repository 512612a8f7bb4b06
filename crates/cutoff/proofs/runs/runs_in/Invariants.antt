use Rattle.std.proofs.Common.{◌≡◌, ◌++◌, map, drop}
use Rattle.cutoff.specs.Fitting.{run_at, part_of, parts_of}
use Rattle.cutoff.proofs.runs.runs_in.Given as goal

abbrev pub invariant-loop-key : goal.invariant-loop-key
invariant-loop-key g l =
    parts_of l.place (map (run_at l.trie) l.keys) ≡ map part_of l.runs.items ++ parts_of l.rest (map (run_at l.trie) (drop l.key-index l.keys))
