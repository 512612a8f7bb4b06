-- Reading lines one after another, as a loop does.
use Rattle.std.proofs.Common.{◌≡◌, ℕ, ◌+◌, true, false, List, [], ◌∷◌, length, Option, Result, Ok, Err, refl, ap, ◌∙◌, arith}
use Rattle.words.specs.Words.{next, after_next, is_end}
use Rattle.question_file.specs.declared.fault.QuestionFaultKind.{QuestionFaultKind}
use Rattle.question_file.specs.Faults.{question_fault}
use Rattle.question_file.specs.Asked.{Asked}
use Rattle.question_file.specs.Reading.{last_line, read_from, read_on, with_line}

-- a line that has a line end is read, and then those that follow it
pub line_more : (n : ℕ) (read : Option Asked) (ls : List (List ℕ)) → is_end (after_next ls) ≡ false
    → read_from n read ls ≡ read_on n (with_line read (next ls)) (λ more. read_from (n + 1) more (after_next ls))
unfolding read_from
line_more n read [] more = absurd cc
line_more n read (line ∷ []) more = absurd cc
line_more n read (line ∷ other ∷ others) more = refl

-- after a line without a fault, the lines that follow it are read
pub line_said : (n : ℕ) (read more : Option Asked) (ls : List (List ℕ)) → is_end (after_next ls) ≡ false → with_line read (next ls) ≡ Ok more
    → read_from n read ls ≡ read_from (n + 1) more (after_next ls)
line_said n read more ls not_last e = line_more n read ls not_last ∙ ap (λ (r : Result (Option Asked) QuestionFaultKind). read_on n r (λ m. read_from (n + 1) m (after_next ls))) e

-- if a line has a fault, the lines from it on are read as this fault
pub line_faulty : (n : ℕ) (read : Option Asked) (k : QuestionFaultKind) (ls : List (List ℕ)) → is_end (after_next ls) ≡ false → with_line read (next ls) ≡ Err k
    → read_from n read ls ≡ Err (question_fault k n)
line_faulty n read k ls not_last e = line_more n read ls not_last ∙ ap (λ (r : Result (Option Asked) QuestionFaultKind). read_on n r (λ m. read_from (n + 1) m (after_next ls))) e

-- the text after the last line end is read as `last_line` says
pub at_end : (n : ℕ) (read : Option Asked) (ls : List (List ℕ)) → is_end ls ≡ false → is_end (after_next ls) ≡ true
    → read_from n read ls ≡ last_line n read (next ls)
unfolding read_from
at_end n read [] some end = absurd cc
at_end n read (line ∷ []) some end = refl
at_end n read (line ∷ other ∷ others) some end = absurd cc

-- after one of the lines is read, there is one less
pub one_line_less : (ls : List (List ℕ)) → is_end ls ≡ false → length (after_next ls) + 1 ≡ length ls
one_line_less [] some = absurd cc
one_line_less (l ∷ ls) some = omega arith
