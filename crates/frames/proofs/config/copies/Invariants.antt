use Rattle.std.proofs.Common.{◌≡◌, length, take, vec_len, vec_capacity}
use Rattle.frames.proofs.config.copies.Given as goal

-- the processes before this one are copied, and memory for the rest is reserved
abbrev pub invariant-loop-process : goal.invariant-loop-process
invariant-loop-process l = record {
  copied : l.copied.items ≡ take l.process-index l.processes;
  taken : vec_len l.copied ≡ l.process-index;
  room : vec_capacity l.copied ≡ length l.processes;
}
