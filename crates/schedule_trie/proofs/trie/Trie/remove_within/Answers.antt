use Rattle.lineage.specs.Family.{with_item}
use Rattle.schedule_trie.specs.TrieFields.{trie_of}
use Rattle.std.proofs.Common.{refl, sym, subst, ◌<◌, length}
use Rattle.schedule_trie.specs.Trie.{segment_at, slots_of, IsRemoved}
use Rattle.schedule_trie.proofs.segments.StepSet.{inside_from}
use Rattle.schedule_trie.proofs.edits.RemoveSteps.{within_held, is_removed_within}
use Rattle.schedule_trie.proofs.lengths.Lengths.{relength_seen}
use Rattle.schedule_trie.proofs.lengths.LengthSteps.{none_cached_kept}
use Rattle.schedule_trie.proofs.trie.Trie.remove_within.Goals as goal

pub remove-requires : goal.remove-requires
remove-requires g c =
    inside_from c.self.inside c.args.key c.args.offset c.item_mut.result.now c.args.self.now c.self.view_is
    c.item_mut.ensures.value c.requires.offset

pub invariant_of-self : goal.invariant_of-self
invariant_of-self g c =
    let p = record c.self.inside { segments = with_item c.self.inside.segments c.args.key c.remove.new.self } in
    none_cached_kept p (record p { branches = c.forget_lengths.new.self }) c.forget_lengths.ensures.names refl refl refl
    (within_held c.self.inside c.args.key c.args.offset c.item_mut.result.now c.remove.new.self c.self.invariant.held c.item_mut.ensures.value
    (subst (λ z. c.args.offset < length (slots_of (segment_at z.segments c.args.key))) (sym c.self.view_is) c.requires.offset)
    (subst (λ z. 1 < length (slots_of (segment_at z.segments c.args.key))) (sym c.self.view_is) c.requires.more)
    c.remove.ensures.slots c.remove.ensures.note) c.self.invariant.names c.forget_lengths.ensures.none

pub returns : goal.returns
returns g c =
    let t = c.self.inside in
    let p = record t { segments = with_item t.segments c.args.key c.remove.new.self } in
    rw (← c.self.view_is)
    (subst (λ z. IsRemoved (trie_of t) z c.args.key c.args.offset)
    (sym (relength_seen p (record p { branches = c.forget_lengths.new.self }) c.forget_lengths.ensures.names refl refl refl))
    (is_removed_within c.self.inside c.args.key c.args.offset c.item_mut.result.now c.remove.new.self c.self.invariant.held c.item_mut.ensures.value
    (subst (λ z. c.args.offset < length (slots_of (segment_at z.segments c.args.key))) (sym c.self.view_is) c.requires.offset)
    (subst (λ z. 1 < length (slots_of (segment_at z.segments c.args.key))) (sym c.self.view_is) c.requires.more)
    c.remove.ensures.slots c.remove.ensures.note))
