use Rattle.std.proofs.Common.{◌≡◌, ◌+◌, ◌∷◌, [], ◌++◌, replicate, ap, ◌∙◌, arith}
use Rattle.std.proofs.lemmas.List.{replicate_more}
use Rattle.frames.specs.StoredConfiguration.{idle}
use Rattle.frames.proofs.config.all_idle.Goals as goal

pub loop-preserved : goal.loop-preserved
loop-preserved c =
    let was = c.loop.invariant in
    record {
      idle = c.push_reserved.ensures.items ∙ (λ i. was.idle i ++ c.idle.ensures i ∷ []) ∙ replicate_more c.loop.counter idle;
      taken = c.push_reserved.ensures.len ∙ ap (λ n. n + 1) was.taken;
      room = c.push_reserved.ensures.capacity ∙ was.room;
    }

pub returns : goal.returns
returns c =
    let all : c.loop.counter ≡ c.args.processes = omega (arith, c.loop-test.false, c.loop.auto.counter-end) in
    c.loop.invariant.idle ∙ ap (λ n. replicate n idle) all
