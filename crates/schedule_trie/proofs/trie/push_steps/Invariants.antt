use Rattle.std.proofs.Common.{◌≡◌, ◌++◌, drop, map}
use Rattle.branch_terms.specs.Forest.{step_of}
use Rattle.schedule_trie.proofs.trie.push_steps.Given as goal

abbrev pub invariant-loop-slot : goal.invariant-loop-slot
invariant-loop-slot l = l.steps.items ++ map step_of (drop l.slot-index l.slots) ≡ l.initial.steps.items ++ map step_of l.slots
