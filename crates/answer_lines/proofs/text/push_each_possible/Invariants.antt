use Rattle.std.proofs.Common.{◌≡◌, ◌++◌, take}
use Rattle.std.specs.List.{flat_map}
use Rattle.question_file.specs.Asked.{lists_of}
use Rattle.answer_lines.specs.Text.{possible_text}
use Rattle.answer_lines.proofs.text.push_each_possible.Given as goal

abbrev pub invariant-loop-possible : goal.invariant-loop-possible
invariant-loop-possible l = l.out.items ≡ l.fn.out.items ++ flat_map (possible_text (lists_of l.operations)) (take l.possible-index l.found)
