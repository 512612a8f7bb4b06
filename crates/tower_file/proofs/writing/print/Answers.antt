use Rattle.std.proofs.Common.{◌++◌}
use Rattle.words.specs.Steps.{step_text}
use Rattle.words.proofs.Pushed.{texts_more}
use Rattle.tower_file.specs.Spelling.{text_with_end, tower_text}
use Rattle.tower_file.specs.Versions.{header}
use Rattle.tower_file.proofs.writing.print.Goals as goal

pub loop-step-preserved : goal.loop-step-preserved
loop-step-preserved c =
    let front = text_with_end (header c.args.file.now.version) ++ text_with_end (tower_text c.args.file.now.tower) in
    texts_more (λ s. text_with_end (step_text s)) c.as_slice-step-items.result.now c.loop-step.step-index _ front c.loop-step.out.items c.push_step_line.new.out.items c.loop-step-test.true c.loop-step.invariant
    c.in_ok-push_step_line.ensures
