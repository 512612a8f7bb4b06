use Rattle.schedule_trie.specs.TrieFields.{trie_of}
use Rattle.std.proofs.Common.{◌≡◌, ◌<◌, nat_eq, None, length, refl, sym, ap, subst, ◌∙◌}
use Rattle.std.specs.Cmp.Lexicographic.{pointwise}
use Rattle.indexmap.specs.IndexMap.{insert_entry}
use Rattle.branch_terms.specs.Forest.{index_of}
use Rattle.schedule_trie.specs.Trie.{forest, keys_in}
use Rattle.schedule_trie.specs.Climbs.{keys_to, HasClimbedTo}
use Rattle.schedule_trie.proofs.forks.ForkSteps.{reached_there, held_after_fork, is_forked_at_end, is_forked_whole}
use Rattle.schedule_trie.proofs.lengths.LengthSteps.{forked_lengths}
use Rattle.schedule_trie.proofs.branches.NamesKept.{forked_names}
use Rattle.schedule_trie.proofs.segments.StepSet.{reserved_kept}
use Rattle.schedule_trie.proofs.trie.Trie.fork_after.Goals as goal

pub fork-requires : goal.fork-requires
fork-requires g c =
    reached_there c.self.inside c.args.index c.args.last c.self.invariant.held (subst (λ z. HasClimbedTo (keys_in z.branches c.args.index) c.args.last) (sym c.self.view_is) c.requires.last)

pub invariant_of-self : goal.invariant_of-self
invariant_of-self g c =
    reserved_kept c.self.inside (record c.self.inside { branches = c.reserve.new.self })
    c.in_err-reserve.ensures.entries refl refl refl c.self.invariant

pub invariant_of-self-in_err-fork : goal.invariant_of-self-in_err-fork
invariant_of-self-in_err-fork g c =
    reserved_kept c.self.inside (record c.self.inside { segments = c.fork.new.self; branches = c.reserve.new.self })
    c.in_ok-reserve.ensures.entries c.in_err-fork.ensures.err refl refl c.self.invariant

pub invariant_of-self-2 : goal.invariant_of-self-2
invariant_of-self-2 g c =
    let t = c.self.inside in
    let view = c.self.view_is in
    let u = record t { segments = c.fork.new.self; branches = c.insert_reserved.new.branches } in
    let entries = c.insert_reserved.ensures ∙ ap (λ es. insert_entry (pointwise nat_eq) es c.args.name None) c.in_ok-reserve.ensures.entries in
    record {
      held = held_after_fork t (record t { segments = c.fork.new.self; branches = c.insert_reserved.new.branches }) c.args.name c.args.index c.args.last None c.self.invariant.held
          (subst (λ z. length z.branches < z.limits.branches) (sym view) c.requires.room) (subst (λ z. index_of (forest z).branches c.args.name ≡ None) (sym view) c.requires.name)
          (subst (λ z. HasClimbedTo (keys_in z.branches c.args.index) c.args.last) (sym view) c.requires.last) c.in_ok-fork.ensures.ok
          (c.insert_reserved.ensures ∙ ap (λ es. insert_entry (pointwise nat_eq) es c.args.name None) c.in_ok-reserve.ensures.entries) refl refl;
      lengths = forked_lengths t (trie_of u) u.branches.entries c.args.index _ c.args.name c.self.invariant.lengths
          (subst (λ z. index_of (forest z).branches c.args.name ≡ None) (sym view) c.requires.name) entries
          (is_forked_at_end t (record t { segments = c.fork.new.self; branches = c.insert_reserved.new.branches }) c.args.name c.args.index c.args.last None c.self.invariant.held
          (subst (λ z. length z.branches < z.limits.branches) (sym view) c.requires.room) (subst (λ z. index_of (forest z).branches c.args.name ≡ None) (sym view) c.requires.name)
          (subst (λ z. HasClimbedTo (keys_in z.branches c.args.index) c.args.last) (sym view) c.requires.last) c.in_ok-fork.ensures.ok
          (c.insert_reserved.ensures ∙ ap (λ es. insert_entry (pointwise nat_eq) es c.args.name None) c.in_ok-reserve.ensures.entries) refl refl);
      names = forked_names t u.branches.entries c.args.name c.self.invariant.names c.requires.form
          (subst (λ z. index_of (forest z).branches c.args.name ≡ None) (sym view) c.requires.name) entries;
    }

pub returns-clause-ok : goal.returns-clause-ok
returns-clause-ok g c =
    let t = c.self.inside in
    let view = c.self.view_is in
    rw (← c.self.view_is)
    (is_forked_at_end t (record t { segments = c.fork.new.self; branches = c.insert_reserved.new.branches }) c.args.name c.args.index c.args.last None c.self.invariant.held
    (subst (λ z. length z.branches < z.limits.branches) (sym view) c.requires.room) (subst (λ z. index_of (forest z).branches c.args.name ≡ None) (sym view) c.requires.name)
    (subst (λ z. HasClimbedTo (keys_in z.branches c.args.index) c.args.last) (sym view) c.requires.last) c.in_ok-fork.ensures.ok
    (c.insert_reserved.ensures ∙ ap (λ es. insert_entry (pointwise nat_eq) es c.args.name None) c.in_ok-reserve.ensures.entries) refl refl)

pub returns-clause-end : goal.returns-clause-end
returns-clause-end g c every =
    rw (← c.self.view_is) (is_forked_whole c.self.inside (record c.self.inside { segments = c.fork.new.self; branches = c.insert_reserved.new.branches }) c.args.name c.args.index c.args.last None
    c.self.invariant.held (subst (λ z. length z.branches < z.limits.branches) (sym c.self.view_is) c.requires.room)
    (subst (λ z. index_of (forest z).branches c.args.name ≡ None) (sym c.self.view_is) c.requires.name) (subst (λ z. HasClimbedTo (keys_in z.branches c.args.index) c.args.last) (sym c.self.view_is) c.requires.last)
    c.in_ok-fork.ensures.ok (c.insert_reserved.ensures ∙ ap (λ es. insert_entry (pointwise nat_eq) es c.args.name None) c.in_ok-reserve.ensures.entries) refl refl
    (subst (λ z. keys_to (keys_in z.branches c.args.index) c.args.last ≡ keys_in z.branches c.args.index) (sym c.self.view_is) every))
