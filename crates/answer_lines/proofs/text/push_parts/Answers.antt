use Rattle.std.proofs.Common.{rules, ◌≡◌, ◌∙◌, ◌++◌, List, ap}
use Rattle.std.specs.Global.{Vec}
use Rattle.frames.specs.declared.types.Op.{Op}
use Rattle.answer_lines.specs.Text.{answers_part}
use Rattle.answer_lines.proofs.Parts.{parts_more, parts_all}
use Rattle.answer_lines.proofs.text.push_parts.Goals as goal

pub loop-p-preserved : goal.loop-p-preserved
loop-p-preserved c =
    let item = c.index-operations-p in
    let same : c.deref.result.now ≡ item.result.items = search rules in
    parts_more c.args.answers.now c.args.operations.now c.loop-p.p item.result _ _ _ c.loop-p-test.true c.loop-p.invariant
    (c.in_ok-push_part.ensures ∙ ap (λ (x : List Op). c.loop-p.out.items ++ answers_part c.args.answers.now c.loop-p.p x) (same ∙ ap (λ (v : Vec Op). v.items) item.is))

pub returns : goal.returns
returns c = parts_all c.args.answers.now c.args.operations.now c.loop-p.p _ _ c.loop-p-test.false c.loop-p.invariant
