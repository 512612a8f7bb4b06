use Rattle.std.proofs.Common.{rules, ◌≡◌, ◌∷◌}
use Rattle.words.proofs.Fronts.{BeginsWithNoStep, BeginsWithNoNumber, no_step_without_number, no_step_without_second_number, no_step_without_end_after_first, no_step_without_end_after_second}
use Rattle.words.proofs.Options.{if_none}
use Rattle.words.proofs.front.front_step.Goals as goal

pub returns-in_err-p-clause-none : goal.returns-in_err-p-clause-none
returns-in_err-p-clause-none c =
    let text : c.args.text.now ≡ c.in_ok-word.word.now ∷ c.in_ok-word.numbers.now = search rules in
    let none : BeginsWithNoNumber c.in_ok-word.numbers.now = c.in_err-p.ensures.none in
    if_none c.from_residual-in_err-p.result (BeginsWithNoStep c.args.text.now) (no_step_without_number c.args.text.now c.in_ok-word.numbers.now c.in_ok-word.word.now text none)

pub returns-in_err-second-clause-none : goal.returns-in_err-second-clause-none
returns-in_err-second-clause-none c =
    let text : c.args.text.now ≡ c.in_ok-word.word.now ∷ c.in_ok-word.numbers.now = search rules in
    if_none c.from_residual-in_err-second.result (BeginsWithNoStep c.args.text.now)
    (no_step_without_second_number c.args.text.now c.in_ok-word.numbers.now c.in_ok-word.word.now text c.in_ok-p.p c.in_ok-p.left.now c.in_ok-p.ensures.short c.in_ok-p.ensures.front c.in_ok-p.ensures.whole
    (c.has_two_numbers.ensures.two (search rules)) c.in_err-second.ensures.none)

pub returns-in_err-left-clause-none : goal.returns-in_err-left-clause-none
returns-in_err-left-clause-none c =
    let text : c.args.text.now ≡ c.in_ok-word.word.now ∷ c.in_ok-word.numbers.now = search rules in
    if_none c.from_residual-in_err-left.result (BeginsWithNoStep c.args.text.now)
    (no_step_without_end_after_second c.args.text.now c.in_ok-word.numbers.now c.in_ok-word.word.now text c.in_ok-p.p c.in_ok-p.left.now c.in_ok-p.ensures.short c.in_ok-p.ensures.front c.in_ok-p.ensures.whole
    (c.has_two_numbers.ensures.two (search rules))
    c.in_ok-second.second c.in_ok-second.left.now c.in_ok-second.ensures.short c.in_ok-second.ensures.front c.in_ok-second.ensures.whole c.in_err-left.ensures.none)

pub returns-in_err-left-2-clause-none : goal.returns-in_err-left-2-clause-none
returns-in_err-left-2-clause-none c =
    let text : c.args.text.now ≡ c.in_ok-word.word.now ∷ c.in_ok-word.numbers.now = search rules in
    let one = c.has_two_numbers.ensures.one (search rules) in
    if_none c.from_residual-in_err-left-2.result (BeginsWithNoStep c.args.text.now)
    (no_step_without_end_after_first c.args.text.now c.in_ok-word.numbers.now c.in_ok-word.word.now text c.in_ok-p.p c.in_ok-p.left.now c.in_ok-p.ensures.short c.in_ok-p.ensures.front c.in_ok-p.ensures.whole
    one.0 one.1 c.in_err-left-2.ensures.none)
