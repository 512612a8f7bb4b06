use Rattle.std.proofs.Common.{◌≡◌, ◌≤◌, nat_le, None, Some, length, refl, sym, ap, subst, ◌∙◌, Ok, is_some, inl, arith}
use Rattle.std.proofs.lemmas.Bool.{and_from, le-leb}
use Rattle.std.proofs.lemmas.Result.{IfOk-from_err, err_from_is_err_and}
use Rattle.schedule_trie.specs.Edits.{Fork, IsEdited}
use Rattle.branch_terms.specs.Names.{is_well_formed}
use Rattle.branch_terms.specs.Forest.{index_of, slots_in}
use Rattle.schedule_trie.specs.Trie.{forest}
use Rattle.schedule_trie.specs.changes.Forks.{IsBranchForked, IsForkedWhole}
use Rattle.schedule_trie.proofs.forks.ForkAnswers.{name_taken, bad_name, no_place, too_many, fork_ok, memory_alone, none_from_is_some}
use Rattle.schedule_trie.proofs.lengths.LengthsAfter.{branch_count, fork_last, fork_len}
use Rattle.schedule_trie.proofs.trie.Trie.fork.Goals as goal

pub returns-in_default-clause-ok : goal.returns-in_default-clause-ok
returns-in_default-clause-ok g c = tt

pub cache_len-requires : goal.cache_len-requires
cache_len-requires g c = c.in-Some.ensures.within

pub returns-then-is_some-clause-err : goal.returns-then-is_some-clause-err
returns-then-is_some-clause-err g c =
    record {
      why = inl (name_taken c.args.self.now.limits (forest c.args.self.now) c.args.branch.now c.args.name c.args.place c.in-Some.index (sym c.in-Some.ensures.index)
          (ap is_some (sym c.index-2.ensures.index) ∙ sym c.is_some.ensures ∙ c.if-is_some.true));
      unchanged = refl;
    }

pub prove-unreachable-requires : goal.prove-unreachable-requires
prove-unreachable-requires g c =
    omega (arith, c.if-prove.true, ap length c.as_bytes.ensures.bytes, c.as_bytes.ensures.short)

pub returns-then-not-is_well_formed-clause-err : goal.returns-then-not-is_well_formed-clause-err
returns-then-not-is_well_formed-clause-err g c =
    record {
      why = inl (bad_name c.args.self.now.limits (forest c.args.self.now) c.args.branch.now c.args.name c.args.place c.in-Some.index (sym c.in-Some.ensures.index)
          (ap is_some (sym c.index-2.ensures.index) ∙ sym c.is_some.ensures ∙ c.if-is_some.false) (sym c.is_well_formed.ensures ∙ c.if-not-is_well_formed.true));
      unchanged = refl;
    }

pub returns-then-cache_len-place-clause-err : goal.returns-then-cache_len-place-clause-err
returns-then-cache_len-place-clause-err g c =
    record {
      why = inl (no_place c.args.self.now.limits (forest c.args.self.now) c.args.branch.now c.args.name c.args.place c.in-Some.index (sym c.in-Some.ensures.index)
          (ap is_some (sym c.index-2.ensures.index) ∙ sym c.is_some.ensures ∙ c.if-is_some.false) (sym c.is_well_formed.ensures ∙ c.if-not-is_well_formed.false)
          (omega (arith, c.cache_len.ensures.len, c.if-cache_len-place.true)));
      unchanged = c.cache_len.ensures.same;
    }

pub returns-then-count-self-clause-err : goal.returns-then-count-self-clause-err
returns-then-count-self-clause-err g c =
    let most = ap (λ z. z.limits.branches) (c.self.view_is ∙ c.cache_len.ensures.same) in
    let branches = c.branches-count.ensures.count ∙ ap (λ z. length (forest z).branches) c.cache_len.ensures.same in
    record {
      why = inl (too_many c.args.self.now.limits (forest c.args.self.now) c.args.branch.now c.args.name c.args.place c.in-Some.index (sym c.in-Some.ensures.index)
          (ap is_some (sym c.index-2.ensures.index) ∙ sym c.is_some.ensures ∙ c.if-is_some.false) (sym c.is_well_formed.ensures ∙ c.if-not-is_well_formed.false)
          (omega (arith, c.cache_len.ensures.len, c.if-cache_len-place.false)) (omega (arith, most, branches, c.if-count-self.true)));
      unchanged = c.cache_len.ensures.same;
    }

pub fork_at-requires-clause-place : goal.fork_at-requires-clause-place
fork_at-requires-clause-place g c =
    subst (λ z. c.args.place ≤ length (slots_in (forest z).branches c.in-Some.index)) (sym c.cache_len.ensures.same)
    (omega (arith, c.cache_len.ensures.len, c.if-cache_len-place.false))

pub fork_at-requires-clause-name : goal.fork_at-requires-clause-name
fork_at-requires-clause-name g c =
    subst (λ z. index_of (forest z).branches c.args.name ≡ None) (sym c.cache_len.ensures.same)
    (none_from_is_some _ (ap is_some (sym c.index-2.ensures.index) ∙ sym c.is_some.ensures ∙ c.if-is_some.false))

pub fork_at-requires-clause-form : goal.fork_at-requires-clause-form
fork_at-requires-clause-form g c =
    and_from (nat_le (length c.args.name) 16) (is_well_formed c.args.name)
    (le-leb (length c.args.name) 16 c.as_bytes.ensures.short)
    (sym c.is_well_formed.ensures ∙ c.if-not-is_well_formed.false)

pub fork_at-requires-clause-room : goal.fork_at-requires-clause-room
fork_at-requires-clause-room g c =
    let most = ap (λ z. z.limits.branches) c.self.view_is in
    let count = branch_count c.cache_len.new.self in
    omega (arith, most, count, c.branches-count.ensures.count, c.if-count-self.false)

pub overflow_cast-count : goal.overflow_cast-count
overflow_cast-count g c = omega (arith, c.branches-count.type_inv)

pub set_cached_len-requires-clause-index : goal.set_cached_len-requires-clause-index
set_cached_len-requires-clause-index g c =
    let more = fork_last c.cache_len.new.self c.fork_at.new.self c.in-Some.index c.args.place c.args.name c.in_ok-fork_at.ensures.ok in
    omega (arith, more, c.branches-count.ensures.count, branch_count c.cache_len.new.self)

pub set_cached_len-requires-clause-len : goal.set_cached_len-requires-clause-len
set_cached_len-requires-clause-len g c =
    let fits = subst (λ z. c.args.place ≤ length (slots_in (forest z).branches c.in-Some.index)) (sym c.cache_len.ensures.same) (omega (arith, c.cache_len.ensures.len, c.if-cache_len-place.false)) in
    subst (λ n. c.args.place ≡ length (slots_in (forest c.fork_at.new.self).branches n)) (sym (c.branches-count.ensures.count ∙ branch_count c.cache_len.new.self))
    (fork_len c.cache_len.new.self c.fork_at.new.self c.in-Some.index c.args.place c.args.name c.in_ok-fork_at.ensures.ok fits)

pub returns-clause-ok : goal.returns-clause-ok
returns-clause-ok g c =
    let most = ap (λ z. z.limits.branches) (c.self.view_is ∙ c.cache_len.ensures.same) in
    let branches = c.branches-count.ensures.count ∙ ap (λ z. length (forest z).branches) c.cache_len.ensures.same in
    let change = subst (λ z. IsBranchForked z c.fork_at.new.self c.in-Some.index c.args.place c.args.name) c.cache_len.ensures.same c.in_ok-fork_at.ensures.ok in
    subst (λ z. IsEdited c.args.self.now z (Fork c.args.branch.now c.args.place c.args.name)) (sym c.set_cached_len.ensures)
    (record {
      forest = fork_ok c.args.self.now.limits (forest c.args.self.now) c.args.branch.now c.args.name c.args.place c.in-Some.index (sym c.in-Some.ensures.index)
          (ap is_some (sym c.index-2.ensures.index) ∙ sym c.is_some.ensures ∙ c.if-is_some.false) (sym c.is_well_formed.ensures ∙ c.if-not-is_well_formed.false)
          (omega (arith, c.cache_len.ensures.len, c.if-cache_len-place.false)) (omega (arith, most, branches, c.if-count-self.false))
          ∙ sym (λ i. Ok (record { branches = change.branches i; made = change.made i }));
      notes = change.notes c.args.branch.now (sym c.in-Some.ensures.index);
      cut = change.cut;
      limits = change.limits;
    })

pub returns-in_err-fork_at-clause-ok : goal.returns-in_err-fork_at-clause-ok
returns-in_err-fork_at-clause-ok g c = IfOk-from_err _ _ c.from_residual.ensures.0

pub returns-in_err-fork_at-clause-end : goal.returns-in_err-fork_at-clause-end
returns-in_err-fork_at-clause-end g c = IfOk-from_err _ _ c.from_residual.ensures.0

pub returns-in_err-fork_at-clause-err : goal.returns-in_err-fork_at-clause-err
returns-in_err-fork_at-clause-err g c =
    let most = ap (λ z. z.limits.branches) (c.self.view_is ∙ c.cache_len.ensures.same) in
    let branches = c.branches-count.ensures.count ∙ ap (λ z. length (forest z).branches) c.cache_len.ensures.same in
    let why = memory_alone c.args.self.now.limits (forest c.args.self.now) c.args.branch.now c.args.name c.args.place c.in-Some.index (sym c.in-Some.ensures.index)
    (ap is_some (sym c.index-2.ensures.index) ∙ sym c.is_some.ensures ∙ c.if-is_some.false) (sym c.is_well_formed.ensures ∙ c.if-not-is_well_formed.false)
    (omega (arith, c.cache_len.ensures.len, c.if-cache_len-place.false)) (omega (arith, most, branches, c.if-count-self.false)) in
    let p = err_from_is_err_and c.from_residual.result c.from_residual.ensures.1 in rw (p.1, p.2) (record { why = why; unchanged = c.in_err-fork_at.ensures.err ∙ c.cache_len.ensures.same })

pub returns-clause-end : goal.returns-clause-end
returns-clause-end g c index found long =
    let at : Some c.in-Some.index ≡ Some index = c.in-Some.ensures.index ∙ found in
    let here : c.in-Some.index ≡ index = cc in
    let change = subst (λ z. c.args.place ≡ length (slots_in (forest z).branches c.in-Some.index) → IsForkedWhole z c.fork_at.new.self c.in-Some.index c.args.name) c.cache_len.ensures.same
    c.in_ok-fork_at.ensures.end in
    subst (λ z. IsForkedWhole c.args.self.now z index c.args.name) (sym c.set_cached_len.ensures)
    (subst (λ i. c.args.place ≡ length (slots_in (forest c.args.self.now).branches i) → IsForkedWhole c.args.self.now c.fork_at.new.self i c.args.name) here change long)
