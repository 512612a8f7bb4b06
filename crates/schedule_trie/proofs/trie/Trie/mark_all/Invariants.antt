use Rattle.schedule_trie.specs.Trie.{segment_at}
use Rattle.schedule_trie.proofs.limbs.MarkSteps.{AreMarkedSoFar}
use Rattle.schedule_trie.proofs.trie.Trie.mark_all.Given as goal

abbrev pub invariant-loop-key : goal.invariant-loop-key
invariant-loop-key g l = record {
  so_far : AreMarkedSoFar (segment_at l.self.segments) l.fn.marks.items l.marks.items l.keys l.fn.branch l.fn.above l.key-index l.cells;
}
