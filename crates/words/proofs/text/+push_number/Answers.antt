use Rattle.std.proofs.Common.{sym, ap, ◌++◌, ◌∙◌, List, ℕ, arith}
use Rattle.std.proofs.lemmas.Fmt.{decimal_digit}
use Rattle.words.proofs.Digits.{last_digit}
use Rattle.words.proofs.text.+push_number.Goals as goal

pub returns : goal.returns
returns t c =
    c.in_ok-push-2.ensures.items
    ∙ last_digit c.args.out.now.items c.push_number.new.out.items c.args.number (omega arith) (omega arith) c.in_ok-push_number.ensures

pub returns-then-number-lt10 : goal.returns-then-number-lt10
returns-then-number-lt10 t c =
    c.in_ok-push.ensures.items ∙ ap (λ (ds : List ℕ). c.args.out.now.items ++ ds) (sym (decimal_digit c.args.number c.if-number-lt10.true))
