use Rattle.std.proofs.Common.{rules, ◌≡◌, ◌∷◌, ◌∙◌, ℕ, List, true, ap, arith}
use Rattle.std.specs.Char.{is_ascii_digit}
use Rattle.words.proofs.Fronts.{one_digit}
use Rattle.words.proofs.front.front_number.Goals as goal

pub returns-then-first-eq0-clause-front : goal.returns-then-first-eq0-clause-front
returns-then-first-eq0-clause-front c =
    let space : c.in_ok-space.space.now ≡ 32 = search rules in
    let text : c.args.text.now ≡ c.in_ok-space.space.now ∷ c.in_ok-space.digits.now = search rules in
    let digits : c.in_ok-space.digits.now ≡ c.in_ok-digit.digit.now ∷ c.in_ok-digit.left.now = search rules in
    let digit : is_ascii_digit c.in_ok-digit.digit.now ≡ true = search rules in
    one_digit c.args.text.now c.in_ok-space.digits.now c.in_ok-digit.left.now c.in_ok-digit.digit.now 0
    (text ∙ ap (λ (b : ℕ). b ∷ c.in_ok-space.digits.now) space) digits digit (omega (arith, c.from-first.ensures))

pub returns-clause-front : goal.returns-clause-front
returns-clause-front c =
    let space : c.in_ok-space.space.now ≡ 32 = search rules in
    let text : c.args.text.now ≡ c.in_ok-space.space.now ∷ c.in_ok-space.digits.now = search rules in
    let digits : c.in_ok-space.digits.now ≡ c.in_ok-digit.digit.now ∷ c.in_ok-digit.left.now = search rules in
    let digit : is_ascii_digit c.in_ok-digit.digit.now ≡ true = search rules in
    one_digit c.args.text.now c.in_ok-space.digits.now c.in_ok-digit.left.now c.in_ok-digit.digit.now c.from-first.result
    (text ∙ ap (λ (b : ℕ). b ∷ c.in_ok-space.digits.now) space) digits digit c.from-first.ensures
    ∙ ap (λ (xs : List ℕ). 32 ∷ xs) c.more_digits.ensures.front
