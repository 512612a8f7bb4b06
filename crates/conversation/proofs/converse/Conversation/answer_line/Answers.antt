use Rattle.std.proofs.Common.{◌≡◌, ℕ, ◌+◌, List, [], ◌∙◌, rules, sym, ap, subst, take, true, length, ◌==◌}
use Rattle.std.proofs.lemmas.Bool.{eqb-true}
use Rattle.std.proofs.lemmas.List.{nil_from_length}
use Rattle.conversation.specs.declared.limits.TheConstants.{KEPT_BYTES}
use Rattle.conversation.specs.Scripts.{IsLineAnswer}
use Rattle.conversation.specs.Pieces.{kept_with}
use Rattle.conversation.proofs.converse.Conversation.answer_line.Goals as goal

empty_if_zero : (xs : List ℕ) → true ≡ (length xs == 0) → xs ≡ []
empty_if_zero xs h = nil_from_length xs (eqb-true (length xs) 0 (sym h))

-- if nothing of a line was kept before, its front is kept
front_alone : (line bytes front : List ℕ) → line ≡ [] → front ≡ take KEPT_BYTES bytes → front ≡ kept_with line bytes
front_alone line bytes front e f = f ∙ ap (λ l. kept_with l bytes) (sym e)

pub returns-then-is_empty-clause-answer : goal.returns-then-is_empty-clause-answer
returns-then-is_empty-clause-answer g c = λ alone.
    subst (λ l. IsLineAnswer g.A.Answers.define (c.args.self.now.lines + 1) l (g.A.Answers.world c.args.state.now) (g.A.Answers.world c.answer.new.arg2) c.args.self.now.out.items
    c.answer.new.arg5.items)
    (front_alone c.args.self.now.line.items c.args.end.now c.kept_front.result.now (sym c.as_slice.ensures.value ∙ empty_if_zero c.as_slice.result.now c.if-is_empty.ensures) c.kept_front.ensures)
    (search rules)

pub returns-then-is_empty-clause-line : goal.returns-then-is_empty-clause-line
returns-then-is_empty-clause-line g c =
    sym c.as_slice.ensures.value ∙ empty_if_zero c.as_slice.result.now c.if-is_empty.ensures
