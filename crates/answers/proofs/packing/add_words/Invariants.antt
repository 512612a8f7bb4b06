use Rattle.std.proofs.Common.{◌≡◌, ◌≤◌, ◌++◌, drop}
use Rattle.answers.specs.Packing.{packed, by_gaps}
use Rattle.answers.proofs.packing.add_words.Given as goal

-- what is written, with the words that are left, is the whole
abbrev pub invariant-loop-word : goal.invariant-loop-word
invariant-loop-word l = record {
  written : l.bytes.items ++ packed (by_gaps l.gap (drop l.word-index l.words)) ≡ l.initial.bytes.items ++ packed (by_gaps 0 l.words);
  low : l.gap ≤ l.word-index;
}
