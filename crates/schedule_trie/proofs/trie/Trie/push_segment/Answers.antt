use Rattle.std.specs.Map.{keys_of}
use Rattle.schedule_trie.specs.Trie.{IsPushed}
use Rattle.schedule_trie.specs.TrieFields.{trie_of}
use Rattle.std.proofs.Common.{◌+◌, ◌<◌, ◌∙◌, None, ap, length, refl, sym, subst}
use Rattle.schedule_trie.proofs.branches.Lines.{path_within}
use Rattle.schedule_trie.proofs.edits.PushFresh.{push_segment_held, push_segment_pushed}
use Rattle.schedule_trie.proofs.lengths.Lengths.{names_set, relength_seen}
use Rattle.schedule_trie.proofs.lengths.LengthSteps.{entry_within, right_lengths_kept, pushed_lengths}
use Rattle.schedule_trie.proofs.trie.Trie.push_segment.Goals as goal

pub push-requires : goal.push-requires
push-requires g c =
    path_within c.self.inside c.self.invariant.held c.args.index (subst (λ z. c.args.index < length z.branches) (sym c.self.view_is) c.requires.index)

pub set_cached_len-requires : goal.set_cached_len-requires
set_cached_len-requires g c = entry_within c.self.inside c.args.self.now c.args.index c.self.view_is c.requires.index

pub invariant_of-self-2 : goal.invariant_of-self-2
invariant_of-self-2 g c =
    let t = c.self.inside in
    let index_in = subst (λ z. c.args.index < length z.branches) (sym c.self.view_is) c.requires.index in
    let room = subst (λ z. z.made < z.limits.cells) (sym c.self.view_is) c.requires.room in
    let p = record t { segments = c.push.new.self; made = t.made + 1 } in
    let names = ap keys_of c.set_cached_len.ensures ∙ names_set t.branches.entries c.args.index None in
    right_lengths_kept p (record p { branches = c.set_cached_len.new.self }) names refl refl refl _
    (push_segment_held t p c.args.index _ c.in_ok-segment.segment c.args.step c.self.invariant.held index_in room
    c.in_ok-push.ensures.item c.in_ok-push.ensures.paths refl refl refl c.in_ok-segment.ensures.slots c.in_ok-segment.ensures.note)
    c.self.invariant.names
    (pushed_lengths (trie_of t) (trie_of p) t.branches.entries c.self.invariant.lengths c.args.index c.args.step
    (push_segment_pushed t p c.args.index _ c.in_ok-segment.segment c.args.step c.self.invariant.held index_in room
    c.in_ok-push.ensures.item c.in_ok-push.ensures.paths refl refl refl c.in_ok-segment.ensures.slots c.in_ok-segment.ensures.note)) c.set_cached_len.ensures

pub returns-clause-ok : goal.returns-clause-ok
returns-clause-ok g c =
    let t = c.self.inside in
    let index_in = subst (λ z. c.args.index < length z.branches) (sym c.self.view_is) c.requires.index in
    let room = subst (λ z. z.made < z.limits.cells) (sym c.self.view_is) c.requires.room in
    let p = record t { segments = c.push.new.self; made = t.made + 1 } in
    let names = ap keys_of c.set_cached_len.ensures ∙ names_set t.branches.entries c.args.index None in
    rw (← c.self.view_is)
    (subst (λ z. IsPushed (trie_of t) z c.args.index c.args.step) (sym (relength_seen p (record p { branches = c.set_cached_len.new.self }) names refl refl refl))
    (push_segment_pushed t p c.args.index _ c.in_ok-segment.segment c.args.step c.self.invariant.held index_in room
    c.in_ok-push.ensures.item c.in_ok-push.ensures.paths refl refl refl c.in_ok-segment.ensures.slots c.in_ok-segment.ensures.note))
