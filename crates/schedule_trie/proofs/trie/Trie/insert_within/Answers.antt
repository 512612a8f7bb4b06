use Rattle.lineage.specs.Family.{with_item}
use Rattle.schedule_trie.specs.Trie.{IsPutBefore}
use Rattle.schedule_trie.specs.TrieFields.{trie_of}
use Rattle.std.proofs.Common.{sym, subst, refl, ◌∙◌, ◌+◌, ◌<◌, length, arith}
use Rattle.schedule_trie.proofs.Results.{always_on_err}
use Rattle.schedule_trie.proofs.segments.StepSet.{held_there, inside_from, equal_item_kept, equal_item_seen}
use Rattle.schedule_trie.proofs.edits.InsertSteps.{slots_seen, put_held, is_put_before}
use Rattle.schedule_trie.proofs.lengths.Lengths.{relength_seen}
use Rattle.schedule_trie.proofs.lengths.LengthSteps.{none_cached_kept, right_lengths_kept}
use Rattle.schedule_trie.proofs.trie.Trie.insert_within.Goals as goal

pub item_mut-segment-requires : goal.item_mut-segment-requires
item_mut-segment-requires g c = held_there c.self.inside c.args.key c.args.offset c.args.self.now c.self.view_is c.requires.offset

pub insert-requires : goal.insert-requires
insert-requires g c =
    let inside = inside_from c.self.inside c.args.key c.args.offset c.item_mut-segment.result.now c.args.self.now c.self.view_is
    c.item_mut-segment.ensures.value c.requires.offset in
    omega (arith, inside)

pub invariant_of-self : goal.invariant_of-self
invariant_of-self g c =
    let t = c.self.inside in
    let p = record t { segments = with_item t.segments c.args.key c.insert.new.self } in
    let kept = equal_item_kept t c.args.key c.insert.new.self c.self.invariant (equal_item_seen c.self.inside c.args.key c.item_mut-segment.result.now c.insert.new.self c.item_mut-segment.ensures.value
    c.in_err-insert.ensures.err_slots c.in_err-insert.ensures.err_note) in
    right_lengths_kept p (record p { scratch = c.insert.new.scratch }) refl refl refl refl t.branches.entries kept.held kept.names kept.lengths refl

pub returns-in_err-insert-clause-err : goal.returns-in_err-insert-clause-err
returns-in_err-insert-clause-err g c =
    always_on_err c.from_residual.result _ (equal_item_seen c.self.inside c.args.key c.item_mut-segment.result.now c.insert.new.self c.item_mut-segment.ensures.value
    c.in_err-insert.ensures.err_slots c.in_err-insert.ensures.err_note ∙ c.self.view_is)

pub invariant_of-self-2 : goal.invariant_of-self-2
invariant_of-self-2 g c =
    let p = record c.self.inside { segments = with_item c.self.inside.segments c.args.key c.insert.new.self; made = c.self.inside.made + 1 } in
    none_cached_kept p (record p { branches = c.forget_lengths.new.self; scratch = c.insert.new.scratch }) c.forget_lengths.ensures.names refl refl refl
    (put_held c.self.inside c.args.key c.args.offset c.args.step c.item_mut-segment.result.now c.insert.new.self c.self.invariant.held c.item_mut-segment.ensures.value
    (inside_from c.self.inside c.args.key c.args.offset c.item_mut-segment.result.now c.args.self.now c.self.view_is c.item_mut-segment.ensures.value c.requires.offset)
    (subst (λ l. length l < 128) (slots_seen c.self.inside c.args.key c.item_mut-segment.result.now c.args.self.now c.self.view_is c.item_mut-segment.ensures.value) c.requires.few)
    (subst (λ z. z.made < z.limits.cells) (sym c.self.view_is) c.requires.room)
    c.in_ok-insert.ensures.slots c.in_ok-insert.ensures.note) c.self.invariant.names c.forget_lengths.ensures.none

pub returns-clause-ok : goal.returns-clause-ok
returns-clause-ok g c =
    let t = c.self.inside in
    let p = record t { segments = with_item t.segments c.args.key c.insert.new.self; made = t.made + 1 } in
    rw (← c.self.view_is)
    (subst (λ z. IsPutBefore (trie_of t) z c.args.key c.args.offset c.args.step)
    (sym (relength_seen p (record p { branches = c.forget_lengths.new.self; scratch = c.insert.new.scratch }) c.forget_lengths.ensures.names refl refl refl))
    (is_put_before c.self.inside c.args.key c.args.offset c.args.step c.item_mut-segment.result.now c.insert.new.self c.self.invariant.held c.item_mut-segment.ensures.value
    (inside_from c.self.inside c.args.key c.args.offset c.item_mut-segment.result.now c.args.self.now c.self.view_is c.item_mut-segment.ensures.value c.requires.offset)
    (subst (λ l. length l < 128) (slots_seen c.self.inside c.args.key c.item_mut-segment.result.now c.args.self.now c.self.view_is c.item_mut-segment.ensures.value) c.requires.few)
    (subst (λ z. z.made < z.limits.cells) (sym c.self.view_is) c.requires.room)
    c.in_ok-insert.ensures.slots c.in_ok-insert.ensures.note))
