use Rattle.std.proofs.Common.{◌≡◌, replicate, vec_len, vec_capacity}
use Rattle.frames.specs.StoredConfiguration.{idle}
use Rattle.frames.proofs.config.all_idle.Given as goal

-- the processes before this one are idle, and memory for the rest is reserved
abbrev pub invariant-loop : goal.invariant-loop
invariant-loop l = record {
  idle : l.all.items ≡ replicate l.counter idle;
  taken : vec_len l.all ≡ l.counter;
  room : vec_capacity l.all ≡ l.processes;
}
