use Rattle.std.proofs.Common.{◌≡◌, [], replicate, vec_len, vec_capacity}
use Rattle.answers.proofs.outcomes.no_answers.Given as goal

-- each process before this one has no outcomes, and memory for the rest is reserved
abbrev pub invariant-loop : goal.invariant-loop
invariant-loop l = record {
  empty : l.all.items ≡ replicate l.counter [];
  taken : vec_len l.all ≡ l.counter;
  room : vec_capacity l.all ≡ l.processes;
}
