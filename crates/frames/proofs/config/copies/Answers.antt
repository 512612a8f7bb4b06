use Rattle.std.proofs.Common.{◌≡◌, ◌+◌, ◌∷◌, [], ◌++◌, get_or, sym, ap, ◌∙◌}
use Rattle.std.proofs.lemmas.List.{take_all, take_more}
use Rattle.frames.proofs.config.copies.Goals as goal

pub loop-process-preserved : goal.loop-process-preserved
loop-process-preserved c =
    let was = c.loop-process.invariant in
    let ps = c.args.processes.now in
    let i = c.loop-process.process-index in
    let p = c.process-item.result in
    let same : c.copy.result ≡ get_or ps i p = c.copy.ensures ∙ c.process-item.is in
    record {
      copied = c.push_reserved.ensures.items ∙ (λ j. was.copied j ++ same j ∷ []) ∙ sym (take_more ps i p c.loop-process-test.true);
      taken = c.push_reserved.ensures.len ∙ ap (λ n. n + 1) was.taken;
      room = c.push_reserved.ensures.capacity ∙ was.room;
    }

pub returns : goal.returns
returns c = c.loop-process.invariant.copied ∙ take_all c.loop-process.process-index c.args.processes.now c.loop-process-test.false
