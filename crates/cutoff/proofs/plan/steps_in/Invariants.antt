use Rattle.std.proofs.Common.{◌≡◌, ◌++◌, length, drop, map, vec_len, vec_capacity}
use Rattle.schedule_trie.specs.Forest.{step_of}
use Rattle.cutoff.proofs.plan.steps_in.Given as goal

-- the steps so far, with those still to be added, are all steps, and memory for all is reserved
abbrev pub invariant-loop-slot : goal.invariant-loop-slot
invariant-loop-slot l = record {
  steps : l.steps.items ++ map step_of (drop l.slot-index l.slots) ≡ map step_of l.slots;
  taken : vec_len l.steps ≡ l.slot-index;
  room : vec_capacity l.steps ≡ length l.slots;
}
