use Rattle.std.proofs.Common.{◌≡◌, ◌+◌, ◌++◌, drop, map}
use Rattle.branch_terms.specs.Forest.{numbered, renumbered, step_of}
use Rattle.schedule_trie.proofs.segment.Segment.renumbered.Given as goal

abbrev pub invariant-loop-slot : goal.invariant-loop-slot
invariant-loop-slot g l =
    (l.renumbered.items ++ numbered l.cell (map step_of (drop l.slot-index l.slots)) ≡ renumbered l.first l.slots)
    × (l.cell ≡ l.first + l.slot-index)
