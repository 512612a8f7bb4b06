use Rattle.std.proofs.Common.{rules, ◌≡◌, ◌∙◌, List, ℕ, false, sym, ap}
use Rattle.std.specs.Option.{option_map}
use Rattle.words.specs.Words.{after_next, is_end}
use Rattle.question_file.specs.Parsed.{as_asked}
use Rattle.question_file.specs.Reading.{with_line}
use Rattle.question_file.proofs.LineLoop.{line_faulty}
use Rattle.question_file.proofs.reading.parse_question.Goals as goal

pub returns-in-Err-clause-fault : goal.returns-in-Err-clause-fault
returns-in-Err-clause-fault c = λ known.
    let read = option_map as_asked c.lines.file in
    let not_last : is_end (after_next c.lines.lines) ≡ false = search rules in
    sym c.lines.invariant.read
    ∙ line_faulty c.lines.number read c.in-Err.kind c.lines.lines not_last (ap (λ (l : List ℕ). with_line read l) (sym c.next-line.ensures.part) ∙ c.in-Err.ensures.fault known)
