use Rattle.std.proofs.Common.{ℕ, List, sym, ◌∙◌, ap, ◌==◌, ◌≡◌, ◌+◌, take, drop, length, ◌-◌}
use Rattle.std.proofs.lemmas.List.{take_rest, drop-drop}
use Rattle.words.proofs.Splits.{split_whole, split_first}
use Rattle.words.proofs.parts.first_part.Goals as goal

pub returns-in-None : goal.returns-in-None
returns-in-None c = split_whole (λ b. b == c.args.separator) c.args.text.now (sym c.in-None.ensures)

following_part : (xs ys : List ℕ) (k : ℕ) → ys ≡ drop k xs → take (length ys - 1) (drop 1 ys) ≡ drop (k + 1) xs
following_part xs ys k e = take_rest ys 1 ∙ ap (drop 1) e ∙ drop-drop 1 k xs

pub returns-in-Some : goal.returns-in-Some
returns-in-Some c =
    let e = split_first (λ b. b == c.args.separator) c.args.text.now c.in-Some.end (sym c.in-Some.ensures) in
    let f = following_part c.args.text.now c.split_at.result.1.now c.in-Some.end c.split_at.ensures.back in
    rw (c.split_at.ensures.front, f) e
