-- What a loop over the processes and their operations keeps, as it adds each one's part of the line
-- `answers`.
use Rattle.std.proofs.Common.{◌≡◌, ◌∙◌, ℕ, ◌+◌, ◌<◌, ◌≤◌, List, ◌++◌, length, get_or, drop, sym, ap, append_assoc}
use Rattle.std.specs.Global.{Vec}
use Rattle.std.proofs.lemmas.List.{append-nil, drop_all, drop_more}
use Rattle.frames.specs.declared.types.Op.{Op}
use Rattle.frames.specs.declared.types.Outcome.{Outcome}
use Rattle.question_file.specs.Asked.{lists_of}
use Rattle.answer_lines.specs.Text.{answers_part, answers_parts}

-- if the text so far and the parts not yet pushed are the whole text, this also holds after one
-- more part
pub parts_more : (answers : List (List Outcome)) (xs : List (Vec Op)) (p : ℕ) (d : Vec Op) (now new whole : List ℕ) → p < length xs
    → now ++ answers_parts answers p (lists_of (drop p xs)) ≡ whole → new ≡ now ++ answers_part answers p (get_or xs p d).items
    → new ++ answers_parts answers (p + 1) (lists_of (drop (p + 1) xs)) ≡ whole
parts_more answers xs p d now new whole here so_far h =
    let later = answers_parts answers (p + 1) (lists_of (drop (p + 1) xs)) in
    ap (λ l. l ++ later) h ∙ append_assoc now (answers_part answers p (get_or xs p d).items) later
    ∙ ap (λ l. now ++ answers_parts answers p (lists_of l)) (sym (drop_more xs p d here)) ∙ so_far

-- after all parts, the text so far is the whole text
pub parts_all : (answers : List (List Outcome)) (xs : List (Vec Op)) (p : ℕ) (now whole : List ℕ) → length xs ≤ p
    → now ++ answers_parts answers p (lists_of (drop p xs)) ≡ whole → now ≡ whole
parts_all answers xs p now whole done so_far =
    sym (append-nil now) ∙ ap (λ l. now ++ answers_parts answers p (lists_of l)) (sym (drop_all p xs done)) ∙ so_far
