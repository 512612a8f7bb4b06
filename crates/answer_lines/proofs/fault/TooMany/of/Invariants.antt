use Rattle.std.proofs.Common.{◌≡◌, drop}
use Rattle.question_file.specs.Asked.{lists_of}
use Rattle.answer_lines.specs.Advice.{last_busy, longest_from}
use Rattle.answer_lines.proofs.fault.TooMany.of.Given as goal

-- the processes so far, and then the remaining ones, give the result of all
abbrev pub invariant-loop-p : goal.invariant-loop-p
invariant-loop-p l = record {
  last : last_busy l.last l.p (lists_of (drop l.p l.operations)) ≡ last_busy 0 0 (lists_of l.operations);
  longest : longest_from l.longest l.length l.p (lists_of (drop l.p l.operations)) ≡ longest_from 0 0 0 (lists_of l.operations);
}
