use Rattle.std.proofs.Common.{ap, ◌∙◌}
use Rattle.std.specs.List.{slice_set}
use Rattle.branch_terms.specs.Forest.{slot}
use Rattle.schedule_trie.proofs.segments.Changes.{set_step-write}
use Rattle.schedule_trie.proofs.segment.Segment.set_step.Goals as goal

pub returns-clause-slots : goal.returns-clause-slots
returns-clause-slots g c =
    ap (λ v. v.items) c.clear_note.ensures.slots
    ∙ ap (λ z. slice_set c.args.self.now.slots.items c.args.offset (slot z.cell c.args.step)) c.index_mut.ensures.value
    ∙ set_step-write c.args.self.now.slots.items c.args.offset c.index_mut.result.now c.args.step c.requires
