use Rattle.std.proofs.Common.{◌≡◌, ◌+◌, ◌≤◌, ◌^◌, false, None, length}
use Rattle.std.specs.Option.{option_map}
use Rattle.words.specs.Words.{lines, is_end}
use Rattle.question_file.specs.Parsed.{as_asked}
use Rattle.question_file.specs.Reading.{read_from}
use Rattle.question_file.proofs.reading.parse_question.Given as goal

abbrev pub invariant-lines : goal.invariant-lines
invariant-lines l = record {
  few : l.number + length l.lines ≤ 2 ^ 63 + 1;
  some : is_end l.lines ≡ false;
  read : read_from l.number (option_map as_asked l.file) l.lines ≡ read_from 1 None (lines l.bytes);
}

abbrev pub decreases-lines : goal.decreases-lines
decreases-lines l = length l.lines
