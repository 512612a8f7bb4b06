use Rattle.schedule_trie.specs.TrieFields.{trie_of}
use Rattle.std.proofs.Common.{◌≡◌, ◌+◌, ◌<◌, ◌≤◌, length, refl, sym, subst}
use Rattle.branch_terms.specs.Forest.{slots_in}
use Rattle.schedule_trie.specs.Trie.{forest, segment_at, keys_in}
use Rattle.schedule_trie.specs.changes.Detaches.{AreCopies}
use Rattle.schedule_trie.proofs.detaches.Detaches.{detach_held, is_detached}
use Rattle.schedule_trie.proofs.branches.Lines.{path_within}
use Rattle.schedule_trie.proofs.lengths.LengthSteps.{detached_lengths}
use Rattle.schedule_trie.proofs.segments.StepSet.{reserved_kept, reserved_err}
use Rattle.schedule_trie.proofs.trie.Trie.detach_at.Goals as goal

pub exchange_path-requires : goal.exchange_path-requires
exchange_path-requires g c =
    path_within c.self.inside c.self.invariant.held c.args.index (subst (λ z. c.args.index < length z.branches) (sym c.self.view_is) c.requires.index)

pub invariant_of-self : goal.invariant_of-self
invariant_of-self g c =
    reserved_kept c.self.inside (record c.self.inside { segments = c.exchange_path.new.self })
    refl c.in_err-exchange_path.ensures.err refl refl c.self.invariant

pub returns-in_err-exchange_path-clause-err : goal.returns-in_err-exchange_path-clause-err
returns-in_err-exchange_path-clause-err g c =
    reserved_err c.self.inside (record c.self.inside { segments = c.exchange_path.new.self })
    refl c.in_err-exchange_path.ensures.err refl refl c.from_residual-in_err-exchange_path.result c.self.view_is

pub invariant_of-self-2 : goal.invariant_of-self-2
invariant_of-self-2 g c =
    let t = c.self.inside in
    let view = c.self.view_is in
    let size = subst (λ z. c.len_at-len.result ≡ length (slots_in (forest z).branches c.args.index)) (sym view) c.len_at-len.ensures.len in
    let room = subst (λ z. z.made + length (slots_in (forest z).branches c.args.index) ≤ z.limits.cells) (sym view) c.requires.room in
    let u = record t { segments = c.exchange_path.new.self; made = t.made + c.len_at-len.result } in
    record {
      held = detach_held t (record t { segments = c.exchange_path.new.self; made = t.made + c.len_at-len.result }) c.args.index c.len_at-len.result c.in_ok-copies.copies.items c.self.invariant.held
          (subst (λ z. c.args.index < length z.branches) (sym view) c.requires.index)
          (subst (λ z. AreCopies (segment_at z.segments) z.made (keys_in z.branches c.args.index) c.in_ok-copies.copies.items) (sym view) c.in_ok-copies.ensures)
          c.in_ok-exchange_path.ensures.ok c.lemma_invariant.ensures refl refl refl size (subst (λ n. t.made + n ≤ t.limits.cells) (sym size) room);
      lengths = detached_lengths (trie_of t) (trie_of u) t.branches.entries c.self.invariant.lengths c.args.index
          (is_detached t u c.args.index c.len_at-len.result c.in_ok-copies.copies.items c.self.invariant.held
          (subst (λ z. c.args.index < length z.branches) (sym view) c.requires.index)
          (subst (λ z. AreCopies (segment_at z.segments) z.made (keys_in z.branches c.args.index) c.in_ok-copies.copies.items) (sym view) c.in_ok-copies.ensures)
          c.in_ok-exchange_path.ensures.ok c.lemma_invariant.ensures refl refl refl size);
      names = c.self.invariant.names;
    }

pub returns-clause-ok : goal.returns-clause-ok
returns-clause-ok g c =
    let t = c.self.inside in
    let view = c.self.view_is in
    let size = subst (λ z. c.len_at-len.result ≡ length (slots_in (forest z).branches c.args.index)) (sym view) c.len_at-len.ensures.len in
    rw (← c.self.view_is)
    (is_detached t (record t { segments = c.exchange_path.new.self; made = t.made + c.len_at-len.result }) c.args.index c.len_at-len.result c.in_ok-copies.copies.items c.self.invariant.held
    (subst (λ z. c.args.index < length z.branches) (sym view) c.requires.index)
    (subst (λ z. AreCopies (segment_at z.segments) z.made (keys_in z.branches c.args.index) c.in_ok-copies.copies.items) (sym view) c.in_ok-copies.ensures)
    c.in_ok-exchange_path.ensures.ok c.lemma_invariant.ensures refl refl refl size)
