use Rattle.std.specs.Map.{keys_of}
use Rattle.lineage.specs.Family.{with_item}
use Rattle.schedule_trie.specs.TrieFields.{trie_of}
use Rattle.std.proofs.Common.{sym, subst, ap, refl, None, ◌∙◌, ◌+◌, ◌<◌, length}
use Rattle.schedule_trie.specs.Trie.{IsOwnEnd, IsPushed}
use Rattle.schedule_trie.proofs.edits.PushSteps.{own_there, failed_push_seen, push_within_held, push_within_pushed}
use Rattle.schedule_trie.proofs.segments.StepSet.{equal_item_kept}
use Rattle.schedule_trie.proofs.Results.{always_on_err}
use Rattle.schedule_trie.proofs.lengths.Lengths.{names_set, relength_seen}
use Rattle.schedule_trie.proofs.lengths.LengthSteps.{entry_within, right_lengths_kept, pushed_lengths}
use Rattle.schedule_trie.proofs.trie.Trie.push_within.Goals as goal

pub item_mut-requires : goal.item_mut-requires
item_mut-requires g c =
    own_there c.self.inside c.args.index c.args.key c.self.invariant.held (subst (λ z. IsOwnEnd z c.args.index c.args.key) (sym c.self.view_is) c.requires.end)

pub invariant_of-self : goal.invariant_of-self
invariant_of-self g c =
    let end = subst (λ z. IsOwnEnd z c.args.index c.args.key) (sym c.self.view_is) c.requires.end in
    equal_item_kept c.self.inside c.args.key c.push.new.self c.self.invariant (failed_push_seen c.self.inside c.args.index c.args.key c.self.invariant.held end c.item_mut.result.now c.push.new.self c.item_mut.ensures.value
    c.in_err-push.ensures.err_slots c.in_err-push.ensures.err_note)

pub returns-in_err-push-clause-err : goal.returns-in_err-push-clause-err
returns-in_err-push-clause-err g c =
    let end = subst (λ z. IsOwnEnd z c.args.index c.args.key) (sym c.self.view_is) c.requires.end in
    always_on_err c.from_residual.result _ (failed_push_seen c.self.inside c.args.index c.args.key c.self.invariant.held end c.item_mut.result.now c.push.new.self c.item_mut.ensures.value
    c.in_err-push.ensures.err_slots c.in_err-push.ensures.err_note ∙ c.self.view_is)

pub set_cached_len-requires : goal.set_cached_len-requires
set_cached_len-requires g c = entry_within c.self.inside c.args.self.now c.args.index c.self.view_is c.requires.index

pub invariant_of-self-2 : goal.invariant_of-self-2
invariant_of-self-2 g c =
    let t = c.self.inside in
    let end = subst (λ z. IsOwnEnd z c.args.index c.args.key) (sym c.self.view_is) c.requires.end in
    let index_in = subst (λ z. c.args.index < length z.branches) (sym c.self.view_is) c.requires.index in
    let room = subst (λ z. z.made < z.limits.cells) (sym c.self.view_is) c.requires.room in
    let p = record t { segments = with_item t.segments c.args.key c.push.new.self; made = t.made + 1 } in
    let names = ap keys_of c.set_cached_len.ensures ∙ names_set t.branches.entries c.args.index None in
    right_lengths_kept p (record p { branches = c.set_cached_len.new.self }) names refl refl refl _
    (push_within_held t c.args.index c.args.key c.self.invariant.held end c.item_mut.result.now c.push.new.self c.item_mut.ensures.value c.args.step index_in room
    c.in_ok-push.ensures.slots c.in_ok-push.ensures.note)
    c.self.invariant.names
    (pushed_lengths (trie_of t) (trie_of p) t.branches.entries c.self.invariant.lengths c.args.index c.args.step
    (push_within_pushed t c.args.index c.args.key c.self.invariant.held end c.item_mut.result.now c.push.new.self c.item_mut.ensures.value c.args.step index_in room
    c.in_ok-push.ensures.slots c.in_ok-push.ensures.note)) c.set_cached_len.ensures

pub returns-clause-ok : goal.returns-clause-ok
returns-clause-ok g c =
    let t = c.self.inside in
    let end = subst (λ z. IsOwnEnd z c.args.index c.args.key) (sym c.self.view_is) c.requires.end in
    let p = record t { segments = with_item t.segments c.args.key c.push.new.self; made = t.made + 1 } in
    let names = ap keys_of c.set_cached_len.ensures ∙ names_set t.branches.entries c.args.index None in
    rw (← c.self.view_is)
    (subst (λ z. IsPushed (trie_of t) z c.args.index c.args.step) (sym (relength_seen p (record p { branches = c.set_cached_len.new.self }) names refl refl refl))
    (push_within_pushed t c.args.index c.args.key c.self.invariant.held end c.item_mut.result.now c.push.new.self c.item_mut.ensures.value c.args.step
    (subst (λ z. c.args.index < length z.branches) (sym c.self.view_is) c.requires.index)
    (subst (λ z. z.made < z.limits.cells) (sym c.self.view_is) c.requires.room)
    c.in_ok-push.ensures.slots c.in_ok-push.ensures.note))
