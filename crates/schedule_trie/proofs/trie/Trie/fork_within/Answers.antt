use Rattle.std.proofs.Common.{arith, ◌≡◌, ◌<◌, true, nat_eq, None, length, take, drop, refl, sym, ap, subst, ◌∙◌, ℕ, ◌+◌, List, ◌∷◌, ◌++◌}
use Rattle.std.proofs.lemmas.Result.{IfOk-from_err}
use Rattle.std.specs.Cmp.Lexicographic.{pointwise}
use Rattle.indexmap.specs.IndexMap.{insert_entry}
use Rattle.lineage.specs.Family.{with_item, IsForkedAbove}
use Rattle.branch_terms.specs.Forest.{index_of}
use Rattle.schedule_trie.specs.Trie.{forest, keys_in, line, segment_at, slots_of, has}
use Rattle.schedule_trie.specs.changes.Forks.{IsBranchForked}
use Rattle.schedule_trie.specs.TrieFields.{trie_of, IsWholeWithPaths}
use Rattle.schedule_trie.proofs.segments.DivisionSteps.{still_there}
use Rattle.schedule_trie.proofs.forks.ForkCutSteps.{cut_fork}
use Rattle.schedule_trie.proofs.lists.KeyPositions.{parting}
use Rattle.schedule_trie.proofs.segments.StepSet.{held_there, reserved_kept, reserved_err}
use Rattle.schedule_trie.proofs.lengths.LengthSteps.{forked_lengths}
use Rattle.schedule_trie.proofs.branches.NamesKept.{forked_names}
use Rattle.schedule_trie.proofs.trie.Trie.fork_within.Given.{Over}
use Rattle.schedule_trie.proofs.trie.Trie.fork_within.Goals as goal

pub parts_at-requires : goal.parts_at-requires
parts_at-requires g c = omega (arith, c.requires.inside, ap length c.slots_at.ensures)

pub invariant_of-self : goal.invariant_of-self
invariant_of-self g c =
    let t = c.self.inside in
    reserved_kept t (record t { branches = c.reserve.new.self }) c.in_err-reserve.ensures.entries refl refl refl
    c.self.invariant

pub returns-in_err-reserve-clause-ok : goal.returns-in_err-reserve-clause-ok
returns-in_err-reserve-clause-ok g c front back e = IfOk-from_err _ _ c.from_residual-in_err-reserve.ensures.0

pub returns-in_err-reserve-clause-err : goal.returns-in_err-reserve-clause-err
returns-in_err-reserve-clause-err g c =
    reserved_err c.self.inside (record c.self.inside { branches = c.reserve.new.self }) c.in_err-reserve.ensures.entries refl refl refl
    c.from_residual-in_err-reserve.result c.self.view_is

pub invariant_of-self-in_err-fork_above : goal.invariant_of-self-in_err-fork_above
invariant_of-self-in_err-fork_above g c =
    let t = c.self.inside in
    reserved_kept t (record t { segments = c.fork_above.new.self; branches = c.reserve.new.self })
    c.in_ok-reserve.ensures.entries c.in_err-fork_above.ensures.err refl refl c.self.invariant

pub returns-in_err-fork_above-clause-ok : goal.returns-in_err-fork_above-clause-ok
returns-in_err-fork_above-clause-ok g c front back e = IfOk-from_err _ _ c.from_residual-in_err-fork_above.ensures.0

pub returns-in_err-fork_above-clause-err : goal.returns-in_err-fork_above-clause-err
returns-in_err-fork_above-clause-err g c =
    reserved_err c.self.inside (record c.self.inside { segments = c.fork_above.new.self; branches = c.reserve.new.self })
    c.in_ok-reserve.ensures.entries c.in_err-fork_above.ensures.err refl refl c.from_residual-in_err-fork_above.result c.self.view_is

pub fork_above-requires : goal.fork_above-requires
fork_above-requires g c = held_there c.self.inside c.args.key c.args.count c.args.self.now c.self.view_is c.requires.inside

pub item_mut-requires : goal.item_mut-requires
item_mut-requires g c =
    still_there c.self.inside.segments c.fork_above.new.self c.args.key c.in_ok-fork_above.field-0 _ c.in_ok-fork_above.ensures.ok.added
    (held_there c.self.inside c.args.key c.args.count c.args.self.now c.self.view_is c.requires.inside)

entered : (g : Over) (c : goal.After-insert_reserved g) → c.insert_reserved.new.branches.entries ≡ insert_entry (pointwise nat_eq) c.self.inside.branches.entries c.args.name None
entered g c = c.insert_reserved.ensures ∙ ap (λ es. insert_entry (pointwise nat_eq) es c.args.name None) c.in_ok-reserve.ensures.entries

forked : (g : Over) (c : goal.After-insert_reserved g) (front back : List ℕ) → keys_in (trie_of c.self.inside).branches c.args.index ≡ front ++ c.args.key ∷ back
    → IsWholeWithPaths (record c.self.inside { segments = with_item c.fork_above.new.self c.args.key c.set_slots.new.self; branches = c.insert_reserved.new.branches })
    × IsBranchForked (trie_of c.self.inside) (trie_of (record c.self.inside { segments = with_item c.fork_above.new.self c.args.key c.set_slots.new.self; branches = c.insert_reserved.new.branches }))
    c.args.index (length (line (segment_at (trie_of c.self.inside).segments) front) + c.args.count) c.args.name
forked g c front back path =
    let t = c.self.inside in
    let view = sym c.self.view_is in
    let slots = c.slots_at.ensures ∙ ap (λ z. slots_of (segment_at z.segments c.args.key)) view in
    cut_fork t (record c.self.inside { segments = with_item c.fork_above.new.self c.args.key c.set_slots.new.self; branches = c.insert_reserved.new.branches }) c.fork_above.new.self
    c.args.name c.args.index c.args.key _ c.args.count front back c.in_ok-above.above c.in_ok-above.below c.item_mut.result.now c.set_slots.new.self None c.self.invariant.held
    (subst (λ z. length z.branches < z.limits.branches) view c.requires.room) (subst (λ z. index_of (forest z).branches c.args.name ≡ None) view c.requires.name) refl refl
    path c.requires.some (subst (λ z. c.args.count < length (slots_of (segment_at z.segments c.args.key))) view c.requires.inside)
    (subst (λ n. IsForkedAbove c.self.inside.segments c.fork_above.new.self c.args.key c.in_ok-fork_above.field-0 (record { slots = c.in_ok-above.above; note = n })) c.none.ensures c.in_ok-fork_above.ensures.ok)
    c.item_mut.ensures.value refl c.set_slots.ensures.slots c.set_slots.ensures.note refl
    (c.in_ok-above.ensures.first ∙ ap (take c.args.count) slots) (c.in_ok-above.ensures.rest ∙ ap (drop c.args.count) slots) (entered g c)

pub invariant_of-self-2 : goal.invariant_of-self-2
invariant_of-self-2 g c =
    let t = c.self.inside in
    let view = sym c.self.view_is in
    let p = parting (keys_in (trie_of t).branches c.args.index) c.args.key (subst (λ z. has c.args.key (keys_in z.branches c.args.index) ≡ true) view c.requires.key) in
    let u = record c.self.inside { segments = with_item c.fork_above.new.self c.args.key c.set_slots.new.self; branches = c.insert_reserved.new.branches } in
    let f = forked g c p.front p.back p.is in
    let free = subst (λ z. index_of (forest z).branches c.args.name ≡ None) view c.requires.name in
    record {
      held = f.0;
      lengths = forked_lengths t (trie_of u) u.branches.entries c.args.index _ c.args.name c.self.invariant.lengths free (entered g c) f.1;
      names = forked_names t u.branches.entries c.args.name c.self.invariant.names c.requires.form free (entered g c);
    }

pub returns-clause-ok : goal.returns-clause-ok
returns-clause-ok g c front back e = rw (← c.self.view_is) (forked g c front back (ap (λ z. keys_in z.branches c.args.index) c.self.view_is ∙ e)).1
