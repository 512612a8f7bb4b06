use Rattle.std.proofs.Common.{◌≡◌, length, take, vec_len, vec_capacity}
use Rattle.answers.proofs.moves.copy_answers.Given as goal

-- the lists before this one are copied, and memory for the rest is reserved
abbrev pub invariant-loop-outcomes : goal.invariant-loop-outcomes
invariant-loop-outcomes l = record {
  copied : l.copied.items ≡ take l.outcomes-index l.answers;
  taken : vec_len l.copied ≡ l.outcomes-index;
  room : vec_capacity l.copied ≡ length l.answers;
}
