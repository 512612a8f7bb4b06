use Rattle.std.proofs.Common.{◌≡◌, ℕ, ◌<◌, ◌≤◌, length, map, Some, refl, ap, sym, subst, ◌∙◌, arith}
use Rattle.std.proofs.lemmas.List.{length-map}
use Rattle.std.specs.Arc.{arc_value}
use Rattle.frames.specs.Recorded.{without_register}
use Rattle.schedule_trie.specs.Forest.{step_of}
use Rattle.checkpoints.specs.Runs.{IsTrueRun}
use Rattle.schedule_trie.specs.Trie.{segment_at, slots_of, IsNoted}
use Rattle.schedule_trie.proofs.Results.{always_on_err}
use Rattle.cutoff.specs.Fitting.{steps_at}
use Rattle.cutoff.proofs.Links.{linked_none}
use Rattle.cutoff.proofs.Segments.{segment_replayed, replayed_linked}
use Rattle.cutoff.proofs.segment.replay_segment.Given.{Over}
use Rattle.cutoff.proofs.segment.replay_segment.Goals as goal

-- what is stored is what is returned
noted : (g : Over) (c : goal.After-new-3 g) → IsNoted c.args.trie.now c.set_note.new.self c.args.key (Some c.new-3.result)
noted g c =
    let run : c.new-2.result.run ≡ c.new-3.result.run = c.new-2.ensures.run ∙ c.in_ok-shared.ensures ∙ sym c.new-3.ensures.run in
    let id = c.new-2.ensures.id ∙ sym c.new-3.ensures.id in
    let link = c.new-2.ensures.link ∙ sym c.new-3.ensures.link in
    let checked = c.new-2.ensures.checked ∙ sym c.new-3.ensures.checked in
    let same : c.new-2.result ≡ c.new-3.result = λ i. record { run = run i; id = id i; link = link i; checked = checked i } in
    subst (λ s. IsNoted c.args.trie.now c.set_note.new.self c.args.key (Some s)) same c.set_note.ensures

pub returns-clause-settled : goal.returns-clause-settled
returns-clause-settled g c =
    let made : c.new-3.result.run ≡ c.in_ok-made.made = c.new-3.ensures.run ∙ c.in_ok-run.ensures.ok in (
      segment_replayed g.R.PartialEq.eq c.args.trie.now c.set_note.new.self (arc_value c.args.config) c.args.key c.new-3.result
          (noted g c) g.met.R.Eq.laws
          (ap (λ r. r.steps) made ∙ c.in_ok-made.ensures.steps ∙ ap (map step_of) c.segment_cells-cells.ensures) (ap (λ r. r.entry) made ∙ c.in_ok-made.ensures.entry)
          c.requires.misses (length c.segment_cells-cells.result.now)
          (ap length c.segment_cells-cells.ensures ∙ sym (length-map (slots_of (segment_at c.args.trie.now.segments c.args.key)) step_of)),
      subst (λ r. IsTrueRun (g.R.Behaves.behaviour r.entry.register) r) (sym made) c.steps-steps.ensures.kept,
    )

pub returns-clause-linked : goal.returns-clause-linked
returns-clause-linked g c =
    let config = arc_value c.args.config in
    let made : c.new-3.result.run ≡ c.in_ok-made.made = c.new-3.ensures.run ∙ c.in_ok-run.ensures.ok in
    linked_none g.R.PartialEq.eq config.register c.take_number-id.new.next _ _ (without_register config) c.set_note.new.self
    (replayed_linked g.R.PartialEq.eq c.args.trie.now c.set_note.new.self config c.args.key c.new-3.result (noted g c) c.args.next.now c.take_number-id.new.next c.args.above c.take_number-id.result g.met.R.Eq.laws c.requires.linked
    (ap (λ r. r.steps) made ∙ c.in_ok-made.ensures.steps ∙ ap (map step_of) c.segment_cells-cells.ensures) (ap (λ r. r.entry) made ∙ c.in_ok-made.ensures.entry)
    c.new-3.ensures.link c.new-3.ensures.checked c.new-3.ensures.id c.take_number-id.ensures)

pub returns-in_err-made-clause-unchanged : goal.returns-in_err-made-clause-unchanged
returns-in_err-made-clause-unchanged g c = always_on_err c.from_residual.result _ (refl, refl)

pub returns-in_err-run-clause-unchanged : goal.returns-in_err-run-clause-unchanged
returns-in_err-run-clause-unchanged g c = always_on_err c.from_residual-in_err-run.result _ (refl, refl)

-- a segment's number of steps fits 32 bits
fits_u32 : (n m : ℕ) → n ≡ m → m ≤ 128 → n < 4294967296
fits_u32 n m same few = omega arith

pub overflow_cast-replayed : goal.overflow_cast-replayed
overflow_cast-replayed g c =
    let same : length c.segment_cells-cells.result.now ≡ length (steps_at c.args.trie.now c.args.key) =
    ap length c.segment_cells-cells.ensures ∙ sym (length-map (slots_of (segment_at c.args.trie.now.segments c.args.key)) step_of) in
    record { fits = fits_u32 _ _ same c.requires.short }
