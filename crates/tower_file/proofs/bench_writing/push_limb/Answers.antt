use Rattle.std.proofs.Common.{◌++◌, sym, ap, ◌∙◌, append_assoc, append-nil}
use Rattle.std.specs.List.{flat_map}
use Rattle.words.specs.Steps.{step_text}
use Rattle.words.proofs.Pushed.{texts_more, texts_all}
use Rattle.tower_file.specs.Spelling.{text_with_end}
use Rattle.tower_file.specs.BenchSpelling.{branch_text}
use Rattle.tower_file.proofs.bench_writing.push_limb.Goals as goal

pub loop-step-init : goal.loop-step-init
loop-step-init c = c.in_ok-push_branch.ensures ∙ sym (append-nil (c.args.out.now.items ++ text_with_end (branch_text c.args.limb.now)))

pub loop-step-preserved : goal.loop-step-preserved
loop-step-preserved c =
    texts_more (λ s. text_with_end (step_text s)) c.as_slice-step-items.result.now c.loop-step.step-index _ _ _ _ c.loop-step-test.true c.loop-step.invariant c.in_ok-push_step_line.ensures

pub returns : goal.returns
returns c =
    let front = c.args.out.now.items in
    let branch = text_with_end (branch_text c.args.limb.now) in
    let steps = flat_map (λ s. text_with_end (step_text s)) in
    texts_all (λ s. text_with_end (step_text s)) c.as_slice-step-items.result.now c.loop-step.step-index _ _ c.loop-step-test.false c.loop-step.invariant
    ∙ append_assoc front branch (steps c.as_slice-step-items.result.now)
    ∙ ap (λ l. front ++ (branch ++ steps l)) c.as_slice-step-items.ensures
