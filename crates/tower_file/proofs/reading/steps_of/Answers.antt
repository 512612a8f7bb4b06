use Rattle.std.proofs.Common.{rules, ◌≡◌, ◌+◌, ◌++◌, ◌∷◌, [], true, false, length, List, Ok, Option, Some, sym, ap, ◌∙◌, arith, length-append}
use Rattle.frames.specs.declared.types.Step.{Step}
use Rattle.tower_file.specs.Reading.{next_step, steps_of}
use Rattle.tower_file.proofs.StepLoop.{with_front, total_if_ended, total_if_faulty, so_far_after_step, has_some_step}
use Rattle.tower_file.proofs.LinesLeft.{fewer_after_step}
use Rattle.tower_file.proofs.PassedFaults.{given_fault, known_fault, bad_step_is_not_memory}
use Rattle.tower_file.proofs.reading.steps_of.Goals as goal

pub returns-in_err-next-clause-read : goal.returns-in_err-next-clause-read
returns-in_err-next-clause-read c =
    let i = c.reading.invariant.read in
    let total = steps_of c.args.version c.args.tower.now 3 c.args.lines.now in
    let failed = sym c.next_step.ensures.step ∙ c.in_err-next.was in
    given_fault c.from_residual.result _ _ c.from_residual.ensures.0 c.from_residual.ensures.1 (λ x h. h) (λ steps. steps.items) total c.reading.number c.in_err-next.ensures.fault
    (total_if_faulty c.args.version c.args.tower.now c.reading.number i.0 c.reading.lines total i.1 _ failed)

pub returns-in_err-next-clause-memory : goal.returns-in_err-next-clause-memory
returns-in_err-next-clause-memory c =
    known_fault c.from_residual.result _ _ c.from_residual.ensures.0 c.from_residual.ensures.1 (λ x h. h) _ (bad_step_is_not_memory _ c.reading.number c.in_err-next.ensures.fault)

pub reading-preserved : goal.reading-preserved
reading-preserved c =
    let i = c.reading.invariant.read in
    let step = c.in-Some.step in
    let total = steps_of c.args.version c.args.tower.now 3 c.args.lines.now in
    let has : next_step c.args.version c.args.tower.now c.reading.number c.reading.lines ≡ Ok (Some step) =
    sym c.next_step.ensures.step ∙ c.in_ok-next.was ∙ ap (λ (o : Option Step). Ok o) c.in-Some.is in
    let more = fewer_after_step c.args.version c.args.tower.now c.reading.number c.reading.lines step has in
    record {
      few = omega (arith, c.reading.invariant.few, more, ap length c.next_step.ensures.left);
      read = (
        i.0 ++ step ∷ [],
        ap (λ (ls : List (List _)). with_front (i.0 ++ step ∷ []) (steps_of c.args.version c.args.tower.now (c.reading.number + 1) ls)) c.next_step.ensures.left
            ∙ so_far_after_step c.args.version c.args.tower.now c.reading.number i.0 c.reading.lines total i.1 step has,
        λ h. c.keep-are_kept.ensures.kept h ∙ ap (λ (xs : List Step). xs ++ step ∷ []) (i.2 (c.keep-are_kept.ensures.were_kept h)),
        λ h. omega (arith, length-append i.0 (step ∷ [])),
      );
    }

pub returns-then-not-are_kept-clause-memory : goal.returns-then-not-are_kept-clause-memory
returns-then-not-are_kept-clause-memory c =
    let i = c.reading.invariant.read in
    let total = steps_of c.args.version c.args.tower.now 3 c.args.lines.now in
    let none = sym c.next_step.ensures.step ∙ c.in_ok-next.was ∙ ap (λ (o : Option Step). Ok o) c.in_default.is in
    let full : c.reading.are_kept ≡ false = search rules in
    λ same. has_some_step total i.0 (total_if_ended c.args.version c.args.tower.now c.reading.number i.0 c.reading.lines total i.1 none) (i.3 full)

pub returns-clause-read : goal.returns-clause-read
returns-clause-read c =
    let i = c.reading.invariant.read in
    let total = steps_of c.args.version c.args.tower.now 3 c.args.lines.now in
    let none = sym c.next_step.ensures.step ∙ c.in_ok-next.was ∙ ap (λ (o : Option Step). Ok o) c.in_default.is in
    let room : c.reading.are_kept ≡ true = search rules in
    total_if_ended c.args.version c.args.tower.now c.reading.number i.0 c.reading.lines total i.1 none ∙ ap (λ (xs : List Step). Ok xs) (sym (i.2 room))
