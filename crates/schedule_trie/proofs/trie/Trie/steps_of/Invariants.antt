use Rattle.std.proofs.Common.{◌≡◌, ◌++◌, drop, map}
use Rattle.branch_terms.specs.Forest.{step_of}
use Rattle.schedule_trie.specs.Trie.{line, segment_at}
use Rattle.schedule_trie.proofs.trie.Trie.steps_of.Given as goal

abbrev pub invariant-loop-key : goal.invariant-loop-key
invariant-loop-key g l = record {
  rest : l.steps.items ++ map step_of (line (segment_at l.self.segments) (drop l.key-index l.keys)) ≡ map step_of (line (segment_at l.self.segments) l.keys);
}
