use Rattle.std.proofs.Common.{rules, ◌≡◌, [], true, false, length, List, Result, Some, sym, ap, subst, ◌∙◌, arith}
use Rattle.branch_terms.specs.declared.limb.Limb.{Limb}
use Rattle.words.specs.Words.{words, next, after_next, is_end}
use Rattle.words.specs.Steps.{step_of_words}
use Rattle.tower_file.specs.declared.fault.FileFault.{FileFault}
use Rattle.tower_file.specs.Faults.{Gives}
use Rattle.tower_file.specs.BenchReading.{then_line, limbs_at_end, limbs_of}
use Rattle.tower_file.proofs.LimbLoop.{at_end, so_far_after_line, fault_on_line, memory_on_line, then_line_of_step}
use Rattle.tower_file.proofs.LinesLeft.{fewer_after_line}
use Rattle.tower_file.proofs.bench_reading.limbs_of.Goals as goal

pub returns-then-is_end-clause-read : goal.returns-then-is_end-clause-read
returns-then-is_end-clause-read c =
    let t = c.args.tower.now in
    let n = c.reading.number in
    let limbs = c.reading.limbs in
    let kept : c.next_step.new.self ≡ c.reading.lines = search rules in
    let end : is_end (after_next c.reading.lines) ≡ true = search rules in
    let same : limbs_of t 3 [] c.args.lines.now ≡ limbs_at_end n limbs c.next-line.result.now =
    sym c.reading.invariant.so_far.read ∙ at_end t n limbs c.reading.lines end ∙ ap (limbs_at_end n limbs) (sym (c.next-line.ensures.part ∙ ap next kept)) in
    subst (λ (r : Result (List Limb) FileFault). Gives (λ limbs. limbs.items) c.ended.result r) (sym same) c.ended.ensures.read

pub returns-in_err-add_line-clause-read : goal.returns-in_err-add_line-clause-read
returns-in_err-add_line-clause-read c =
    let kept : c.next_step.new.self ≡ c.reading.lines = search rules in
    let whole : is_end (after_next c.reading.lines) ≡ false = search rules in
    fault_on_line c.reading.invariant.so_far whole c.from_residual-in_err-add_line.result _ _ c.from_residual-in_err-add_line.ensures.0 c.from_residual-in_err-add_line.ensures.1 (λ x h. h) (λ limbs. limbs.items) _
    (ap (then_line c.args.tower.now c.reading.number c.reading.limbs) (sym (c.next-line.ensures.part ∙ ap next kept))) c.in_err-add_line.ensures.read

pub returns-in_err-add_line-clause-memory : goal.returns-in_err-add_line-clause-memory
returns-in_err-add_line-clause-memory c =
    let kept : c.next_step.new.self ≡ c.reading.lines = search rules in
    let whole : is_end (after_next c.reading.lines) ≡ false = search rules in
    memory_on_line c.reading.invariant.so_far whole c.from_residual-in_err-add_line.result _ _ c.from_residual-in_err-add_line.ensures.0 c.from_residual-in_err-add_line.ensures.1 (λ x h. h) _
    (ap (then_line c.args.tower.now c.reading.number c.reading.limbs) (sym (c.next-line.ensures.part ∙ ap next kept))) c.in_err-add_line.ensures.memory

pub reading-preserved : goal.reading-preserved
reading-preserved c =
    let kept : c.next_step.new.self ≡ c.reading.lines = search rules in
    let whole : is_end (after_next c.reading.lines) ≡ false = search rules in
    let said = ap (then_line c.args.tower.now c.reading.number c.reading.limbs) (sym (c.next-line.ensures.part ∙ ap next kept)) ∙ c.in_ok-add_line.ensures.read in
    let left = c.next-line.ensures.left ∙ ap after_next kept in
    record {
      few = omega (arith, c.reading.invariant.few, fewer_after_line c.reading.lines whole, ap length left);
      so_far = so_far_after_line c.reading.invariant.so_far whole c.add_line.new.limbs c.next-line.new.self said left;
    }

pub returns-in_err-add_step-clause-read : goal.returns-in_err-add_step-clause-read
returns-in_err-add_step-clause-read c =
    let line = next c.reading.lines in
    let whole : is_end (after_next c.reading.lines) ≡ false = search rules in
    let spelled : step_of_words (words line) ≡ Some c.in-Some.step = search rules in
    fault_on_line c.reading.invariant.so_far whole c.from_residual.result _ _ c.from_residual.ensures.0 c.from_residual.ensures.1 (λ x h. h) (λ limbs. limbs.items) _
    (then_line_of_step c.args.tower.now c.reading.number c.reading.limbs line c.in-Some.step spelled) (c.in_err-add_step.ensures.read line spelled)

pub returns-in_err-add_step-clause-memory : goal.returns-in_err-add_step-clause-memory
returns-in_err-add_step-clause-memory c =
    let line = next c.reading.lines in
    let whole : is_end (after_next c.reading.lines) ≡ false = search rules in
    let spelled : step_of_words (words line) ≡ Some c.in-Some.step = search rules in
    memory_on_line c.reading.invariant.so_far whole c.from_residual.result _ _ c.from_residual.ensures.0 c.from_residual.ensures.1 (λ x h. h) _
    (then_line_of_step c.args.tower.now c.reading.number c.reading.limbs line c.in-Some.step spelled) (λ k. c.in_err-add_step.ensures.memory k line spelled)

pub reading-preserved-in-Some : goal.reading-preserved-in-Some
reading-preserved-in-Some c =
    let line = next c.reading.lines in
    let whole : is_end (after_next c.reading.lines) ≡ false = search rules in
    let spelled : step_of_words (words line) ≡ Some c.in-Some.step = search rules in
    let left : c.next_step.new.self ≡ after_next c.reading.lines = search rules in
    let said = then_line_of_step c.args.tower.now c.reading.number c.reading.limbs line c.in-Some.step spelled ∙ c.in_ok-add_step.ensures.read line spelled in
    record {
      few = omega (arith, c.reading.invariant.few, fewer_after_line c.reading.lines whole, ap length left);
      so_far = so_far_after_line c.reading.invariant.so_far whole c.add_step.new.limbs c.next_step.new.self said left;
    }
