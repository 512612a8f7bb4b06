use Rattle.schedule_trie.specs.TrieFields.{trie_of}
use Rattle.std.proofs.Common.{◌≡◌, length, refl, sym, subst}
use Rattle.schedule_trie.specs.Trie.{segment_at, slots_of, IsRemoved}
use Rattle.schedule_trie.proofs.edits.RemoveSteps.{gone_held, is_removed_whole}
use Rattle.schedule_trie.proofs.lengths.Lengths.{relength_seen}
use Rattle.schedule_trie.proofs.lengths.LengthSteps.{none_cached_kept}
use Rattle.schedule_trie.proofs.trie.Trie.remove_segment.Goals as goal

pub invariant_of-self : goal.invariant_of-self
invariant_of-self g c =
    let p = record c.self.inside { segments = c.take_out.new.self } in
    none_cached_kept p (record p { branches = c.forget_lengths.new.self }) c.forget_lengths.ensures.names refl refl refl
    (gone_held c.self.inside (record c.self.inside { segments = c.take_out.new.self }) c.args.key c.self.invariant.held
    (subst (λ z. length (slots_of (segment_at z.segments c.args.key)) ≡ 1) (sym c.self.view_is) c.requires)
    c.take_out.ensures.gone c.take_out.ensures.others c.take_out.ensures.paths refl refl refl) c.self.invariant.names c.forget_lengths.ensures.none

pub returns : goal.returns
returns g c =
    let p = record c.self.inside { segments = c.take_out.new.self } in
    rw (← c.self.view_is)
    (subst (λ z. IsRemoved (trie_of c.self.inside) z c.args.key 0)
    (sym (relength_seen p (record p { branches = c.forget_lengths.new.self }) c.forget_lengths.ensures.names refl refl refl))
    (is_removed_whole c.self.inside (record c.self.inside { segments = c.take_out.new.self }) c.args.key c.self.invariant.held
    (subst (λ z. length (slots_of (segment_at z.segments c.args.key)) ≡ 1) (sym c.self.view_is) c.requires)
    c.take_out.ensures.gone c.take_out.ensures.others c.take_out.ensures.paths refl refl refl))
