use Rattle.std.proofs.Common.{◌≡◌, ◌++◌}
use Rattle.std.specs.Prelude.{◌-◌}
use Rattle.answers.specs.Packing.{packed, processes_numbers, state_numbers}
use Rattle.answers.proofs.packing.bytes_of.Given as goal

-- what is written, with the processes that are left, is the whole
abbrev pub invariant-loop-p : goal.invariant-loop-p
invariant-loop-p g l =
    let b = g.R.Behaves.behaviour l.config.register in
    l.bytes.items ++ packed (processes_numbers b l.config.running l.config.stopped l.answers (b.processes - l.p) l.p)
    ≡ packed (state_numbers b l.config.memory l.config.running l.config.stopped l.answers)
