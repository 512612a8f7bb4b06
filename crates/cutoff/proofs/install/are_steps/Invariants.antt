use Rattle.std.proofs.Common.{◌≡◌, take, map}
use Rattle.schedule_trie.specs.Forest.{step_of}
use Rattle.cutoff.proofs.install.are_steps.Given as goal

abbrev pub invariant-loop-index : goal.invariant-loop-index
invariant-loop-index l = take l.index l.steps ≡ map step_of (take l.index l.slots)
