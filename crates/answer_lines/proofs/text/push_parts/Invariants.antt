use Rattle.std.proofs.Common.{◌≡◌, ◌++◌, drop}
use Rattle.question_file.specs.Asked.{lists_of}
use Rattle.answer_lines.specs.Text.{answers_parts}
use Rattle.answer_lines.proofs.text.push_parts.Given as goal

-- the parts so far, and then those of the remaining processes, are all parts
abbrev pub invariant-loop-p : goal.invariant-loop-p
invariant-loop-p l = l.out.items ++ answers_parts l.answers l.p (lists_of (drop l.p l.operations)) ≡ l.fn.out.items ++ answers_parts l.answers 0 (lists_of l.operations)
