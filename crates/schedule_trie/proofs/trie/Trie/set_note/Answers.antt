use Rattle.lineage.specs.Family.{with_item}
use Rattle.schedule_trie.specs.TrieFields.{trie_of}
use Rattle.schedule_trie.proofs.segments.StepSet.{note_held, is_noted_with}
use Rattle.schedule_trie.proofs.lengths.LengthSteps.{noted_lengths}
use Rattle.schedule_trie.proofs.trie.Trie.set_note.Goals as goal

pub invariant_of-self : goal.invariant_of-self
invariant_of-self g c =
    let t = c.self.inside in
    record {
      held = note_held t c.args.key c.item_mut.result.now c.set_note.new.self c.self.invariant.held c.item_mut.ensures.value c.set_note.ensures.slots;
      lengths = noted_lengths (trie_of t) (trie_of (record t { segments = with_item t.segments c.args.key c.set_note.new.self })) t.branches.entries c.self.invariant.lengths c.args.key c.args.note
          (is_noted_with t c.args.key c.item_mut.result.now c.set_note.new.self c.self.invariant.held c.item_mut.ensures.value c.set_note.ensures.slots c.args.note c.set_note.ensures.note);
      names = c.self.invariant.names;
    }

pub returns : goal.returns
returns g c =
    rw (← c.self.view_is)
    (is_noted_with c.self.inside c.args.key c.item_mut.result.now c.set_note.new.self c.self.invariant.held c.item_mut.ensures.value c.set_note.ensures.slots c.args.note c.set_note.ensures.note)
