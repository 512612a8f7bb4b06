use Rattle.schedule_trie.specs.Trie.{IsPutBefore}
use Rattle.schedule_trie.specs.TrieFields.{trie_of, IsWholeWithPaths}
use Rattle.std.proofs.Common.{◌+◌, refl, sym, subst, ◌≤◌, length}
use Rattle.lineage.specs.Family.{with_item, IsAdded}
use Rattle.schedule_trie.proofs.edits.InsertSteps.{divided}
use Rattle.schedule_trie.proofs.lengths.Lengths.{relength_seen}
use Rattle.schedule_trie.proofs.lengths.LengthSteps.{none_cached_kept}
use Rattle.schedule_trie.proofs.segments.DivisionSteps.{still_there}
use Rattle.schedule_trie.proofs.segments.StepSet.{held_there}
use Rattle.schedule_trie.proofs.trie.Trie.put_before.Given.{Over}
use Rattle.schedule_trie.proofs.trie.Trie.put_before.Goals as goal

pub divide-requires : goal.divide-requires
divide-requires g c = held_there c.self.inside c.args.key c.args.offset c.args.self.now c.self.view_is c.requires.offset

pub item_mut-requires : goal.item_mut-requires
item_mut-requires g c =
    still_there c.self.inside.segments c.divide.new.self c.args.key c.in_ok-divide.field-0 _ c.in_ok-divide.ensures.item
    (held_there c.self.inside c.args.key c.args.offset c.args.self.now c.self.view_is c.requires.offset)

-- the fields before the lengths are forgotten
put : (g : Over) (c : goal.After-self-2-1 g)
    → IsWholeWithPaths (record c.self.inside { segments = with_item c.divide.new.self c.args.key c.set_slots.new.self; made = c.self.inside.made + 1 })
    × IsPutBefore (trie_of c.self.inside) (trie_of (record c.self.inside { segments = with_item c.divide.new.self c.args.key c.set_slots.new.self; made = c.self.inside.made + 1 }))
    c.args.key c.args.offset c.args.step
put g c =
    divided c.self.inside (record c.self.inside { segments = with_item c.divide.new.self c.args.key c.set_slots.new.self; made = c.self.inside.made + 1 })
    c.args.self.now c.self.view_is c.divide.new.self c.args.key _ c.args.offset c.args.step c.in_ok-above.above c.in_ok-above.below c.item_mut.result.now c.set_slots.new.self
    c.slots_at-2.result.now c.self.invariant.held c.slots_at-2.ensures
    (subst (λ n. IsAdded c.self.inside.segments c.divide.new.self c.in_ok-divide.field-0 (record { slots = c.in_ok-above.above; note = n })) c.none.ensures c.in_ok-divide.ensures.item)
    c.item_mut.ensures.value refl c.set_slots.ensures.slots c.set_slots.ensures.note
    c.in_ok-divide.ensures.paths refl refl refl
    c.requires.room c.requires.offset (subst (λ l. 128 ≤ length l) c.slots_at.ensures c.if-slots_at-lt-MOST_SLOTS.false) c.in_ok-above.ensures.parts c.in_ok-above.ensures.least c.in_ok-above.ensures.most

pub invariant_of-self-2 : goal.invariant_of-self-2
invariant_of-self-2 g c =
    let p = record c.self.inside { segments = with_item c.divide.new.self c.args.key c.set_slots.new.self; made = c.self.inside.made + 1 } in
    none_cached_kept p (record p { branches = c.forget_lengths.new.self }) c.forget_lengths.ensures.names refl refl refl (put g c).0 c.self.invariant.names c.forget_lengths.ensures.none

pub returns-clause-ok : goal.returns-clause-ok
returns-clause-ok g c =
    let p = record c.self.inside { segments = with_item c.divide.new.self c.args.key c.set_slots.new.self; made = c.self.inside.made + 1 } in
    rw (← c.self.view_is)
    (subst (λ z. IsPutBefore (trie_of c.self.inside) z c.args.key c.args.offset c.args.step)
    (sym (relength_seen p (record p { branches = c.forget_lengths.new.self }) c.forget_lengths.ensures.names refl refl refl)) (put g c).1)
