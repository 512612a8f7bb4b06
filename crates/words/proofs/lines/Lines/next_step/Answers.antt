use Rattle.std.proofs.Common.{rules, ◌≡◌, Some, None, false}
use Rattle.words.specs.Words.{words, next, after_next, is_end}
use Rattle.words.specs.Steps.{step_of_words}
use Rattle.words.proofs.Options.{if_none}
use Rattle.words.proofs.NextSteps.{is_next_step, no_next_step, no_next_line}
use Rattle.words.proofs.lines.Lines.next_step.Goals as goal

pub returns-clause-step : goal.returns-clause-step
returns-clause-step c =
    let text : c.self.inside.text ≡ Some c.in_ok-self.field-0 = search rules in
    (is_next_step c.self.inside.text c.in_ok-self.field-0 c.args.self.now c.in_ok-step.left.now c.in_ok-step.step text c.self.view_is
    c.in_ok-step.ensures.short c.in_ok-step.ensures.front).step

pub returns-clause-whole : goal.returns-clause-whole
returns-clause-whole c =
    let text : c.self.inside.text ≡ Some c.in_ok-self.field-0 = search rules in
    (is_next_step c.self.inside.text c.in_ok-self.field-0 c.args.self.now c.in_ok-step.left.now c.in_ok-step.step text c.self.view_is
    c.in_ok-step.ensures.short c.in_ok-step.ensures.front).whole

pub returns-clause-left : goal.returns-clause-left
returns-clause-left c =
    let text : c.self.inside.text ≡ Some c.in_ok-self.field-0 = search rules in
    (is_next_step c.self.inside.text c.in_ok-self.field-0 c.args.self.now c.in_ok-step.left.now c.in_ok-step.step text c.self.view_is
    c.in_ok-step.ensures.short c.in_ok-step.ensures.front).left

pub returns-in_err-self-clause-none : goal.returns-in_err-self-clause-none
returns-in_err-self-clause-none c =
    let all = c.args.self.now in
    let text : c.self.inside.text ≡ None = search rules in
    if_none c.from_residual.result (is_end (after_next all) ≡ false → step_of_words (words (next all)) ≡ None) (no_next_line c.self.inside.text all text c.self.view_is)

pub returns-in_err-step-clause-none : goal.returns-in_err-step-clause-none
returns-in_err-step-clause-none c =
    let all = c.args.self.now in
    let text : c.self.inside.text ≡ Some c.in_ok-self.field-0 = search rules in
    if_none c.from_residual-in_err-step.result (is_end (after_next all) ≡ false → step_of_words (words (next all)) ≡ None)
    (no_next_step c.self.inside.text c.in_ok-self.field-0 all text c.self.view_is c.in_err-step.ensures.none)
