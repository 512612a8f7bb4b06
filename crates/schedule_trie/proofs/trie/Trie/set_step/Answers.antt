use Rattle.std.proofs.Common.{◌<◌, length, sym, subst}
use Rattle.lineage.specs.Family.{with_item}
use Rattle.schedule_trie.specs.Trie.{segment_at, slots_of}
use Rattle.schedule_trie.specs.TrieFields.{trie_of}
use Rattle.schedule_trie.proofs.segments.StepSet.{held_there, inside_from, set_held, is_step_set}
use Rattle.schedule_trie.proofs.lengths.LengthSteps.{set_lengths}
use Rattle.schedule_trie.proofs.trie.Trie.set_step.Goals as goal

pub item_mut-requires : goal.item_mut-requires
item_mut-requires g c = held_there c.self.inside c.args.key c.args.offset c.args.self.now c.self.view_is c.requires

pub set_step-requires : goal.set_step-requires
set_step-requires g c =
    inside_from c.self.inside c.args.key c.args.offset c.item_mut.result.now c.args.self.now c.self.view_is
    c.item_mut.ensures.value c.requires

pub invariant_of-self : goal.invariant_of-self
invariant_of-self g c =
    let t = c.self.inside in
    record {
      held = set_held t c.args.key c.args.offset c.args.step c.item_mut.result.now c.set_step.new.self c.self.invariant.held c.item_mut.ensures.value
          (inside_from t c.args.key c.args.offset c.item_mut.result.now c.args.self.now c.self.view_is c.item_mut.ensures.value c.requires)
          c.set_step.ensures.slots c.set_step.ensures.note;
      lengths = set_lengths (trie_of t) (trie_of (record t { segments = with_item t.segments c.args.key c.set_step.new.self })) t.branches.entries c.self.invariant.lengths c.args.key c.args.offset c.args.step
          (is_step_set t c.args.key c.args.offset c.args.step c.item_mut.result.now c.set_step.new.self c.self.invariant.held c.item_mut.ensures.value
          (inside_from t c.args.key c.args.offset c.item_mut.result.now c.args.self.now c.self.view_is c.item_mut.ensures.value c.requires)
          c.set_step.ensures.slots c.set_step.ensures.note)
          (subst (λ z. c.args.offset < length (slots_of (segment_at z.segments c.args.key))) (sym c.self.view_is) c.requires);
      names = c.self.invariant.names;
    }

pub returns : goal.returns
returns g c =
    rw (← c.self.view_is) (is_step_set c.self.inside c.args.key c.args.offset c.args.step c.item_mut.result.now c.set_step.new.self c.self.invariant.held c.item_mut.ensures.value
    (inside_from c.self.inside c.args.key c.args.offset c.item_mut.result.now c.args.self.now c.self.view_is c.item_mut.ensures.value c.requires)
    c.set_step.ensures.slots c.set_step.ensures.note)
