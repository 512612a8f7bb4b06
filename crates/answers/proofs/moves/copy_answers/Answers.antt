use Rattle.std.proofs.Common.{◌≡◌, ◌+◌, ◌∷◌, [], ◌++◌, get_or, sym, ap, ◌∙◌}
use Rattle.std.proofs.lemmas.List.{take_all, take_more}
use Rattle.answers.proofs.moves.copy_answers.Goals as goal

pub loop-outcomes-preserved : goal.loop-outcomes-preserved
loop-outcomes-preserved c =
    let was = c.loop-outcomes.invariant in
    let i = c.loop-outcomes.outcomes-index in
    let all = c.args.answers.now in
    let o = c.outcomes-item.result in
    let same : c.in_ok-copy.copy ≡ get_or all i o = c.in_ok-copy.ensures ∙ c.outcomes-item.is in
    record {
      copied = c.push_reserved.ensures.items ∙ (λ j. was.copied j ++ same j ∷ []) ∙ sym (take_more all i o c.loop-outcomes-test.true);
      taken = c.push_reserved.ensures.len ∙ ap (λ n. n + 1) was.taken;
      room = c.push_reserved.ensures.capacity ∙ was.room;
    }

pub returns : goal.returns
returns c =
    c.loop-outcomes.invariant.copied
    ∙ take_all c.loop-outcomes.outcomes-index c.args.answers.now c.loop-outcomes-test.false
